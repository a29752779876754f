-- What a section says, row by row of its table.
use Rattle.std.proofs.Common.{◌≡◌, ◌≤◌, Bool, true, false, List, [], ◌∷◌, ◌++◌, length, Option, Some, None}
use Rattle.std.specs.{Prelude.{◌&&◌, map, not, if◌then◌else◌}, List.filter}
use Rattle.dirdoc_grammar.specs.Writing.{NewItem}
use Rattle.frame_terms.specs.{Keywords.same, Rows.{is_many, is_one}, Tables.Tables, declared.document.Taken.Taken}
use Rattle.frame_terms.specs.declared.{keyword.Keyword.Keyword, row.Row.Row}
use Rattle.frame_laws.proofs.{Both.both_hold, Entries.{AlwaysSuits, Entry, item_of}}

-- what a section says by one row of its table: the items that are written of it, in their order
pub record RowSays (K V : Type 0) : Type 0 where
  pub row : Row K
  pub entries : List (Entry V)

module _ {K V : Type 0} where
  -- the items that are written of rows
  abbrev pub entries_of : List (RowSays K V) → List (Entry V)
  entries_of [] = []
  entries_of (says ∷ rows) = says.entries ++ entries_of rows

  -- the same as they are written
  abbrev pub items_of : List (RowSays K V) → List NewItem
  items_of rows = map item_of (entries_of rows)

  -- the rows
  abbrev pub rows_of : List (RowSays K V) → List (Row K)
  rows_of rows = map (λ (says : RowSays K V). says.row) rows

  -- an item of a row
  abbrev pub row_once : Row K → Entry V → RowSays K V
  row_once row entry = record { row = row; entries = entry ∷ [] }

  -- nothing of a row
  abbrev pub row_none : Row K → RowSays K V
  row_none row = record { row = row; entries = [] }

-- ---- what is said of a row

module _ {K V : Type 0} where
  -- each item has the row's keyword
  abbrev pub EachNamed : Row K → List (Entry V) → Type 0
  EachNamed row [] = Unit {0}
  EachNamed row (entry ∷ entries) = (row.keyword ≡ entry.keyword) × EachNamed row entries

-- as many items stand of a row as may, and each has its keyword
pub record IsCounted {K V : Type 0} (says : RowSays K V) : Type 0 where
  pub some : is_one says.row.count ≡ true → 1 ≤ length says.entries
  pub few : is_many says.row.count ≡ false → length says.entries ≤ 1
  pub named : EachNamed says.row says.entries

module _ {K V : Type 0} where
  -- the same of each row
  abbrev pub AreCounted : List (RowSays K V) → Type 0
  AreCounted [] = Unit {0}
  AreCounted (says ∷ rows) = IsCounted says × AreCounted rows

module _ {S K V X : Type 0} where
  -- each item has the value that the row asks for, wherever it stands
  abbrev pub EachSuits : Tables S K V X → Row K → List (Entry V) → Type 0
  EachSuits tables row [] = Unit {0}
  EachSuits tables row (entry ∷ entries) = AlwaysSuits tables row entry × EachSuits tables row entries

  pub each_named : (tables : Tables S K V X) (row : Row K) (entries : List (Entry V)) → EachSuits tables row entries
      → EachNamed row entries
  each_named tables row [] suits = tt
  each_named tables row (entry ∷ entries) suits =
      both_hold ((suits.0 tables.start 0).keyword) (each_named tables row entries suits.1)

-- as many items stand of a row as may, and each suits it
pub record IsSaid {S K V X : Type 0} (tables : Tables S K V X) (says : RowSays K V) : Type 0 where
  pub some : is_one says.row.count ≡ true → 1 ≤ length says.entries
  pub few : is_many says.row.count ≡ false → length says.entries ≤ 1
  pub suits : EachSuits tables says.row says.entries

module _ {S K V X : Type 0} where
  -- the same of each row
  abbrev pub AreSaid : Tables S K V X → List (RowSays K V) → Type 0
  AreSaid tables [] = Unit {0}
  AreSaid tables (says ∷ rows) = IsSaid tables says × AreSaid tables rows

  -- what is said of rows is counted
  pub counted : (tables : Tables S K V X) (rows : List (RowSays K V)) → AreSaid tables rows → AreCounted rows
  counted tables [] said = tt
  counted tables (says ∷ rows) said =
      both_hold (record
      { some = said.0.some; few = said.0.few; named = each_named tables says.row says.entries said.0.suits })
      (counted tables rows said.1)

-- ---- keywords

module _ {K : Type 0} where
  -- none of these rows has this keyword
  abbrev pub lack : Keyword → List (Row K) → Bool
  lack keyword [] = true
  lack keyword (row ∷ rows) = not (same keyword row.keyword) && lack keyword rows

  -- no two of these rows have one keyword
  abbrev pub are_apart : List (Row K) → Bool
  are_apart [] = true
  are_apart (row ∷ rows) = lack row.keyword rows && are_apart rows

module _ {V : Type 0} where
  -- the items of a keyword, in their order
  abbrev pub items_at : List (Taken V) → Keyword → List (Taken V)
  items_at taken keyword = filter (λ (one : Taken V). same one.keyword keyword) taken

module _ {K V : Type 0} where
  -- the row of a keyword with what is said by it
  abbrev pub row_said : Keyword → List (RowSays K V) → Option (RowSays K V)
  row_said keyword [] = None
  row_said keyword (says ∷ rows) = if same says.row.keyword keyword then Some says else row_said keyword rows
