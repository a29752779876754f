use Rattle.std.proofs.Common.{◌≡◌, ◌∙◌, true}
use Rattle.key_port.specs.Answers.{rules}
use Rattle.detached_sigs.proofs.{Asking.{answers_at, refused_next}, Signing.bad_next}
use Rattle.detached_sigs.proofs.counting.signs.Goals as goal

pub returns-in-Yes-clause-asked : goal.returns-in-Yes-clause-asked
returns-in-Yes-clause-asked g c =
    answers_at g.V.Verifier.steps c.args.digest.now c.args.key.now c.args.lines.now c.lines.line-index
    c.line-item.result
    _ _ _ _ c.lines-test.true c.line-item.is c.lines.invariant.asked c.in-Yes.ensures.asked

pub returns-in-Fault-clause-asked : goal.returns-in-Fault-clause-asked
returns-in-Fault-clause-asked g c =
    answers_at g.V.Verifier.steps c.args.digest.now c.args.key.now c.args.lines.now c.lines.line-index
    c.line-item.result
    _ _ _ _ c.lines-test.true c.line-item.is c.lines.invariant.asked c.in-Fault.ensures.asked

pub lines-preserved : goal.lines-preserved
lines-preserved g c = record {
  bad = bad_next (rules g.V.Verifier.may_accept g.V.Verifier.may_refuse) c.args.digest.now c.args.lines.now
      c.lines.line-index c.line-item.result c.args.key.now c.lines-test.true c.line-item.is c.lines.invariant.bad
      c.in-No.ensures.answer;
  faults = c.in-No.ensures.cause ∙ c.lines.invariant.faults;
  asked = refused_next g.V.Verifier.steps c.args.digest.now c.args.key.now c.args.lines.now c.lines.line-index
      c.line-item.result _ _ _ c.lines-test.true c.line-item.is c.lines.invariant.asked c.in-No.ensures.asked;
}
