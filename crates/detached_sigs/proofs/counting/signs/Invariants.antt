use Rattle.std.proofs.Common.{◌≡◌, true, take}
use Rattle.key_port.specs.Answers.{rules}
use Rattle.detached_sigs.specs.{Signers.has_bad_lines, Questions.RefusesLines}
use Rattle.detached_sigs.proofs.counting.signs.Given as goal

-- each line so far is refused, and the verifier did not fail
abbrev pub invariant-lines : goal.invariant-lines
invariant-lines g l = record {
  bad : has_bad_lines (rules g.V.Verifier.may_accept g.V.Verifier.may_refuse) l.fn.digest (take l.line-index l.fn.lines)
      l.fn.key ≡ true;
  faults : g.V.Verifier.faults l.verifier ≡ g.V.Verifier.faults l.fn.verifier;
  asked : RefusesLines g.V.Verifier.steps l.fn.digest l.fn.key (take l.line-index l.fn.lines) l.fn.verifier l.verifier;
}
