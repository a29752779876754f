-- Items with the values that they are read with.
use Rattle.std.proofs.Common.{◌≡◌, ℕ, ◌+◌, Bool, false, List, [], ◌∷◌, length, Option, Ok}
use Rattle.dirdoc_grammar.specs.Writing.{NewItem, NewObject, item_text, written}
use Rattle.frame_terms.specs.{Keywords.text_of, Sections.taken_of, Tables.Tables, declared.document.Taken.Taken}
use Rattle.frame_terms.specs.declared.{keyword.Keyword.Keyword, row.Row.Row}

-- an item that is written, and the value that it is read with at a place
pub record Entry (V : Type 0) : Type 0 where
  pub keyword : Keyword
  pub rest : List ℕ
  pub spaced : Bool
  pub object : Option NewObject
  pub value : ℕ → V

module _ {V : Type 0} where
  -- the item
  abbrev pub item_of : Entry V → NewItem
  item_of entry =
      record { keyword = text_of entry.keyword; arguments = entry.rest; spaced = entry.spaced; object = entry.object }

  -- the place after an item that is written at a place
  abbrev pub after_one : ℕ → Entry V → ℕ
  after_one place entry = place + length (item_text (item_of entry))

  -- what is taken of an item at a place
  abbrev pub taken_at : ℕ → Entry V → Taken V
  taken_at place entry = taken_of entry.keyword (written place (item_of entry)) (entry.value place)

  -- what is taken of items from a place on
  abbrev pub all_taken : ℕ → List (Entry V) → List (Taken V)
  all_taken place [] = []
  all_taken place (entry ∷ entries) = taken_at place entry ∷ all_taken (after_one place entry) entries

-- At a place an item has the value that a row asks for, where this is remembered of those before it, and is not
-- passed over.
pub record Suits {S K V X : Type 0} (tables : Tables S K V X) (across : X) (row : Row K) (place : ℕ)
    (entry : Entry V) : Type 0 where
  pub keyword : row.keyword ≡ entry.keyword
  pub known : tables.ignores row.kind (written place (item_of entry)) ≡ false
  pub value : tables.value_of across row.kind (written place (item_of entry)) ≡ Ok (entry.value place)

module _ {S K V X : Type 0} where
  -- it has that value wherever it stands, and whatever is remembered
  abbrev pub AlwaysSuits : Tables S K V X → Row K → Entry V → Type 0
  AlwaysSuits tables row entry = (across : X) (place : ℕ) → Suits tables across row place entry
