-- Words that are borrowed from where they stand.
use Rattle.std.specs.{Prelude.{◌≡◌, ℕ, List, map, take}, Borrow.Bor, List.fold}
use Rattle.dir_values.specs.FlagSets.{with_flag}

-- the words that are borrowed
abbrev pub words_in : List (Bor (List ℕ)) → List (List ℕ)
words_in borrowed = map (λ word. word.now) borrowed

-- a set has so many of the first of some words more than it had, and nothing else
abbrev pub HasFirst : List (List ℕ) → List (List ℕ) → List (List ℕ) → Type 0
HasFirst old words new = (count : ℕ) × (new ≡ fold with_flag old (take count words))
