-- A line of several parts.
use Rattle.std.specs.{Prelude.{ℕ, List, [], ◌∷◌, codes, decimal}, List.flat_map}
use Rattle.item_terms.specs.Bytes.{line_feed}

-- what ends a line
abbrev pub end : List ℕ
end = line_feed ∷ []

-- the text of some parts
abbrev pub joined_parts : List (List ℕ) → List ℕ
joined_parts pieces = flat_map (λ piece. piece) pieces

-- what is wrong at a place, with a keyword where one belongs to it
abbrev pub at_place : ℕ → List ℕ → List ℕ → List (List ℕ)
at_place place what keyword = codes "document fault at " ∷ decimal place ∷ codes ": " ∷ what ∷ keyword ∷ end ∷ []
