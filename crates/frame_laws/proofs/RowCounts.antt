-- Rows that are said, by how many items stand of them.
use Rattle.std.proofs.Common.{◌≡◌, false, List, [], ◌∷◌, ◌++◌, refl, ap, sym, ◌∙◌, append_assoc, arith}
use Rattle.std.{proofs.lemmas.{Bool.both_ways, List.map-append}, specs.Prelude.map}
use Rattle.frame_terms.specs.{Rows.is_one, Tables.Tables, declared.row.Row.Row}
use Rattle.frame_laws.proofs.{Both.both_hold, Entries.{AlwaysSuits, Entry, item_of}, SaidRows.{AreCounted, IsCounted}}
use Rattle.frame_laws.proofs.SaidRows.{IsSaid, RowSays, entries_of, items_of, row_none, row_once, rows_of}

module _ {K V : Type 0} where
  -- an item of its row's keyword
  pub counted_once : (row : Row K) (entry : Entry V) → row.keyword ≡ entry.keyword → IsCounted (row_once row entry)
  counted_once row entry named = record { some = λ i. omega arith; few = λ i. omega arith; named = both_hold named tt }

  -- the rows of two lists
  pub counted_both : (front back : List (RowSays K V)) → AreCounted front → AreCounted back
      → AreCounted (front ++ back)
  counted_both [] back a b = b
  counted_both (says ∷ front) back a b = both_hold a.0 (counted_both front back a.1 b)

  pub rows_of-append : (front back : List (RowSays K V)) → rows_of (front ++ back) ≡ rows_of front ++ rows_of back
  rows_of-append [] back = refl
  rows_of-append (says ∷ front) back = ap (λ (l : List (Row K)). says.row ∷ l) (rows_of-append front back)

  pub entries_of-append : (front back : List (RowSays K V))
      → entries_of (front ++ back) ≡ entries_of front ++ entries_of back
  entries_of-append [] back = refl
  entries_of-append (says ∷ front) back =
      ap (λ (l : List (Entry V)). says.entries ++ l) (entries_of-append front back)
      ∙ sym (append_assoc says.entries (entries_of front) (entries_of back))

  pub items_of-append : (front back : List (RowSays K V)) → items_of (front ++ back) ≡ items_of front ++ items_of back
  items_of-append front back =
      ap (map item_of) (entries_of-append front back) ∙ map-append item_of (entries_of front) (entries_of back)

module _ {S K V X : Type 0} where
  -- an item
  pub said_once : (tables : Tables S K V X) (row : Row K) (entry : Entry V) → AlwaysSuits tables row entry
      → IsSaid tables (row_once row entry)
  said_once tables row entry suits = record { some = λ i. omega arith; few = λ i. omega arith; suits = both_hold suits tt }

  -- nothing, of a row that need not stand
  pub said_none : (tables : Tables S K V X) (row : Row K) → is_one row.count ≡ false → IsSaid tables (row_none row)
  said_none tables row optional = record {
    some = λ i. absurd (both_ways (is_one row.count) optional i);
    few = λ i. omega arith;
    suits = tt;
  }
