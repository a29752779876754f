-- The parts of a text between its commas.
use Rattle.std.specs.{Prelude.{◌≡◌, ℕ, ◌==◌, Bool, List, [], ◌∷◌, Option, Some, None, if◌then◌else◌}, Borrow.Bor}
use Rattle.std.specs.List.{slice_split}
use Rattle.item_terms.specs.Bytes.{comma}

-- a comma stands between two parts
abbrev pub is_comma : ℕ → Bool
is_comma byte = byte == comma

-- the parts of a text between its commas: one more than it has commas
abbrev pub parts_of : List ℕ → List (List ℕ)
parts_of text = slice_split is_comma text

-- the parts of a text that are left, unless the last one was taken
abbrev pub parts_left : Bool → List ℕ → List (List ℕ)
parts_left ended text = if ended then [] else parts_of text

-- the part in front comes off, or none is left
abbrev pub TakesPart : List (List ℕ) → Option (Bor (List ℕ)) → List (List ℕ) → Type 0
TakesPart old None new = (old ≡ []) × (new ≡ [])
TakesPart old (Some part) new = old ≡ part.now ∷ new
