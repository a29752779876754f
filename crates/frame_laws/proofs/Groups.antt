-- The groups of sections that follow one another.
use Rattle.std.proofs.Common.{◌≡◌, ℕ, List, [], ◌∷◌, ◌++◌, Result, Ok, refl, ap}
use Rattle.frame_terms.specs.{Documents.{Document, group, onto}, declared.document.{Group.Group, Taken.Taken}}
use Rattle.frame_terms.specs.declared.fault.ReadRefusal.{ReadRefusal}
use Rattle.frame_laws.proofs.{Entries.taken_at, Following.{groups_of, last_first, last_name, last_others, onto_all}}
use Rattle.frame_laws.proofs.Sections.{Section, end_of, others_in, taken_in}

module _ {S K V : Type 0} where
  -- each of these sections is a group, of which the first begins at a place
  abbrev pub groups_in : ℕ → List (Section S K V) → List (Group S V)
  groups_in place [] = []
  groups_in place (section ∷ list) = group section.name (taken_in place section) ∷ groups_in (end_of place section) list

  -- those that ended, and the last one in front of more, are the section that was open before, and each of them
  pub onto_all-last : (before : S) (first : Taken V) (taken : List (Taken V)) (place : ℕ) (list : List (Section S K V))
      (more : Result (Document S V) ReadRefusal)
      → onto_all (groups_of before (first ∷ taken) place list)
      (onto (group (last_name before list) (last_first first place list ∷ last_others taken place list)) more)
      ≡ onto_all (group before (first ∷ taken) ∷ groups_in place list) more
  onto_all-last before first taken place [] more = refl
  onto_all-last before first taken place (section ∷ list) more =
      ap (λ (r : Result (Document S V) ReadRefusal). onto (group before (first ∷ taken)) r)
      (onto_all-last section.name (taken_at place section.opener) (others_in place section) (end_of place section) list
      more)

module _ {S V : Type 0} where
  -- groups in front of a document's
  pub onto_all-ok : (groups : List (Group S V)) (last : List (Group S V)) (used : ℕ)
      → onto_all groups (Ok (record { groups = last; used = used }))
      ≡ Ok (record { groups = groups ++ last; used = used })
  onto_all-ok [] last used = refl
  onto_all-ok (one ∷ groups) last used =
      ap (λ (r : Result (Document S V) ReadRefusal). onto one r) (onto_all-ok groups last used)
