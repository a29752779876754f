use Rattle.descriptor_doc.proofs.FamilyChecks.{counted_on}
use Rattle.descriptor_doc.proofs.checking.verify_ed.Goals as goal

pub returns-in-Yes-clause-cause : goal.returns-in-Yes-clause-cause
returns-in-Yes-clause-cause g c =
    counted_on _ _ _ c.verify-in-Yes.result c.in-Yes.ensures.cause c.verify-in-Yes.ensures.cause
