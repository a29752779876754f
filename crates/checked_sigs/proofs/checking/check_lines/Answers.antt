use Rattle.std.proofs.{Common.{◌+◌, ◌≤◌, ◌∙◌, arith}, lemmas.Result.err_from_is_err_and}
use Rattle.key_port.specs.Answers.{rules}
use Rattle.checked_sigs.{specs.{Asking.offered_by, Checks.{Tally, tally_of}}, proofs.Telling.{fails_lines, few_more}}
use Rattle.checked_sigs.proofs.Telling.{no_fault, told_next}
use Rattle.checked_sigs.proofs.checking.check_lines.Goals as goal

pub returns-in_err-tell_line-clause-refused : goal.returns-in_err-tell_line-clause-refused
returns-in_err-tell_line-clause-refused g c =
    let rules = rules g.V.Verifier.may_accept g.V.Verifier.may_refuse in
    let before : Tally = tally_of c.lines.report.checked c.lines.report.skipped c.lines.report.bad in
    let p = err_from_is_err_and c.from_residual.result c.from_residual.ensures.1 in
    rw (p.1, p.2)
    (fails_lines rules g.V.Verifier.steps c.args.view.now c.args.detached.now c.as_slice-lines.result.now
    c.lines.line-index c.line-item.result before c.args.verifier.now c.lines.verifier _ c.in_err-tell_line.field-0.0
    c.as_slice-lines.ensures c.lines-test.true c.line-item.is c.lines.invariant.tells c.in_err-tell_line.ensures.refused)

pub lines-preserved : goal.lines-preserved
lines-preserved g c =
    let rules = rules g.V.Verifier.may_accept g.V.Verifier.may_refuse in
    let before : Tally = tally_of c.lines.report.checked c.lines.report.skipped c.lines.report.bad in
    let new = c.tell_line.new.report in
    let after : Tally = tally_of new.checked new.skipped new.bad in
    let adds = c.in_ok-tell_line.ensures.adds in
    let wanted = offered_by c.args.view.now c.args.detached.now c.line-item.result in
    let few = few_more rules g.V.Verifier.steps wanted before after c.lines.verifier c.tell_line.new.verifier adds in
    let fewer_skipped : new.skipped ≤ c.lines.report.skipped + 1 = few.0 in
    let fewer_bad : new.bad ≤ c.lines.report.bad + 1 = few.1 in
    record {
      tells = told_next rules g.V.Verifier.steps c.args.view.now c.args.detached.now c.as_slice-lines.result.now
          c.lines.line-index c.line-item.result before after c.args.verifier.now c.lines.verifier
          c.tell_line.new.verifier c.lines-test.true c.line-item.is c.lines.invariant.tells adds;
      few_skipped = omega (arith, fewer_skipped, c.lines.invariant.few_skipped);
      few_bad = omega (arith, fewer_bad, c.lines.invariant.few_bad);
      faults = no_fault _ _ c.in_ok-tell_line.ensures.faults c.in_ok-tell_line.ensures.told ∙ c.lines.invariant.faults;
    }
