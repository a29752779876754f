-- What a document remembers across its items.
use Rattle.std.proofs.Common.{◌≡◌, List, [], ◌∷◌, ◌++◌, Ok, refl, subst, sym}
use Rattle.frame_terms.specs.{Tables.Tables, declared.document.Taken.Taken}

module _ {S K V X : Type 0} where
  -- Where this is remembered before items, each of them may stand, and that is remembered after them.
  abbrev pub Notes : Tables S K V X → X → List (Taken V) → X → Type 0
  Notes tables across [] after = across ≡ after
  Notes tables across (one ∷ taken) after =
      (next : X) × (tables.note across one ≡ Ok next) × Notes tables next taken after

  -- the items of two lists
  abbrev pub NotesBoth : Tables S K V X → X → List (Taken V) → List (Taken V) → X → Type 0
  NotesBoth tables across front back after =
      (between : X) × Notes tables across front between × Notes tables between back after

  pub notes_parts : (tables : Tables S K V X) (across : X) (front back : List (Taken V)) (after : X)
      → Notes tables across (front ++ back) after → NotesBoth tables across front back after
  notes_parts tables across [] back after notes = (across, refl, notes)
  notes_parts tables across (one ∷ front) back after notes =
      let parts = notes_parts tables notes.0 front back after notes.2 in
      (parts.0, (notes.0, notes.1, parts.1), parts.2)

  pub notes_both : (tables : Tables S K V X) (across between : X) (front back : List (Taken V)) (after : X)
      → Notes tables across front between → Notes tables between back after
      → Notes tables across (front ++ back) after
  notes_both tables across between [] back after first then_ =
      subst (λ (x : X). Notes tables x back after) (sym first) then_
  notes_both tables across between (one ∷ front) back after first then_ =
      (first.0, first.1, notes_both tables first.0 between front back after first.2 then_)

  -- a document that remembers nothing
  abbrev pub Forgets : Tables S K V X → Type 0
  Forgets tables = (across : X) (one : Taken V) → tables.note across one ≡ Ok across

  -- of it any items may stand
  pub notes_nothing : (tables : Tables S K V X) → Forgets tables → (across : X) (taken : List (Taken V))
      → Notes tables across taken across
  notes_nothing tables forgets across [] = refl
  notes_nothing tables forgets across (one ∷ taken) =
      (across, forgets across one, notes_nothing tables forgets across taken)
