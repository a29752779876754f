-- What is kept where a section ends.
use Rattle.std.proofs.Common.{◌≡◌, List, Result, Ok, Err, refl}
use Rattle.frame_terms.specs.declared.{document.{Group.Group, Taken.Taken}, fault.ReadRefusal.ReadRefusal}
use Rattle.frame_terms.specs.Documents.{Document, onto, finish}

pub closes : {S V F : Type 0} (with_ : F → S → List (Taken V) → F) (facts : F) (group : Group S V)
    (rest : Result (Document S V) ReadRefusal)
    → finish with_ facts (onto group rest) ≡ finish with_ (with_ facts group.section group.taken) rest
closes with_ facts group (Ok document) = refl
closes with_ facts group (Err refusal) = refl
