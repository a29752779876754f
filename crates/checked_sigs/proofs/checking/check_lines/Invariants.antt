use Rattle.std.proofs.Common.{◌≡◌, ◌≤◌, take}
use Rattle.key_port.specs.Answers.{rules}
use Rattle.checked_sigs.specs.Checks.{TellsLines, tally_of}
use Rattle.checked_sigs.proofs.checking.check_lines.Given as goal

-- the lines so far are told of, and the verifier did not fail
abbrev pub invariant-lines : goal.invariant-lines
invariant-lines g l = record {
  tells : TellsLines (rules g.V.Verifier.may_accept g.V.Verifier.may_refuse) g.V.Verifier.steps l.fn.view l.fn.detached
      (take l.line-index l.lines) (tally_of l.report.checked l.report.skipped l.report.bad) l.fn.verifier l.verifier;
  few_skipped : l.report.skipped ≤ l.line-index;
  few_bad : l.report.bad ≤ l.line-index;
  faults : g.V.Verifier.faults l.verifier ≡ g.V.Verifier.faults l.fn.verifier;
}
