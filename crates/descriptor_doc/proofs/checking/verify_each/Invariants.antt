use Rattle.std.{proofs.Common.{◌≡◌, take}, specs.Prelude.All}
use Rattle.key_port.specs.Answers.{rules}
use Rattle.descriptor_doc.specs.Families.{AcceptsEach, IsOfFamily}
use Rattle.descriptor_doc.proofs.checking.verify_each.Given as goal

-- each so far holds, and the verifier did not fail
abbrev pub invariant-families : goal.invariant-families
invariant-families g l = record {
  hold : All (IsOfFamily (rules g.V.Verifier.may_accept g.V.Verifier.may_refuse) l.fn.published l.fn.certificate)
      (take l.family-index l.fn.families);
  faults : g.V.Verifier.faults l.verifier ≡ g.V.Verifier.faults l.fn.verifier;
  asked : AcceptsEach g.V.Verifier.steps l.fn.published l.fn.certificate (take l.family-index l.fn.families)
      l.fn.verifier l.verifier;
}
