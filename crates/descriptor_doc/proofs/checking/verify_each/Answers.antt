use Rattle.std.proofs.Common.{◌∙◌}
use Rattle.key_port.specs.Answers.{rules}
use Rattle.descriptor_doc.proofs.FamilyChecks.{accepts_next, answers_at, hold_next, refused_at}
use Rattle.descriptor_doc.proofs.checking.verify_each.Goals as goal

pub returns-in-No-clause-answer : goal.returns-in-No-clause-answer
returns-in-No-clause-answer g c =
    refused_at (rules g.V.Verifier.may_accept g.V.Verifier.may_refuse) c.args.published c.args.certificate.now
    c.args.families.now c.families.family-index c.family-item.result c.families-test.true c.family-item.is
    c.families.invariant.hold c.in-No.ensures.answer

pub returns-in-No-clause-asked : goal.returns-in-No-clause-asked
returns-in-No-clause-asked g c =
    answers_at g.V.Verifier.steps c.args.published c.args.certificate.now c.args.families.now c.families.family-index
    c.family-item.result _ _ _ _ c.families-test.true c.family-item.is c.families.invariant.asked c.in-No.ensures.asked

pub returns-in-Fault-clause-asked : goal.returns-in-Fault-clause-asked
returns-in-Fault-clause-asked g c =
    answers_at g.V.Verifier.steps c.args.published c.args.certificate.now c.args.families.now c.families.family-index
    c.family-item.result _ _ _ _ c.families-test.true c.family-item.is c.families.invariant.asked
    c.in-Fault.ensures.asked

pub families-preserved : goal.families-preserved
families-preserved g c = record {
  hold = hold_next (rules g.V.Verifier.may_accept g.V.Verifier.may_refuse) c.args.published c.args.certificate.now
      c.args.families.now c.families.family-index c.family-item.result c.families-test.true c.family-item.is
      c.families.invariant.hold c.in-Yes.ensures.answer;
  faults = c.in-Yes.ensures.cause ∙ c.families.invariant.faults;
  asked = accepts_next g.V.Verifier.steps c.args.published c.args.certificate.now c.args.families.now
      c.families.family-index c.family-item.result _ _ _ c.families-test.true c.family-item.is
      c.families.invariant.asked c.in-Yes.ensures.asked;
}
