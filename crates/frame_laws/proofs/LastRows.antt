-- What is read of a section that was written with its last item.
use Rattle.std.proofs.Common.{◌≡◌, ℕ, true, List, [], ◌∷◌, ◌++◌, Some, None, sym, ap, subst, ◌∙◌}
use Rattle.std.proofs.lemmas.List.Elements.{filter-append}
use Rattle.frame_terms.specs.{Keywords.same, Sections.lacking_keyword, Tables.Tables, declared.document.Taken.Taken}
use Rattle.frame_terms.specs.declared.row.Row.{Row}
use Rattle.frame_values.specs.Values.{item_at}
use Rattle.frame_laws.proofs.{Both.both_hold, Ends.{entries_to, taken_to, taken_to-parts}, Entries.{Entry, all_taken}}
use Rattle.frame_laws.proofs.{Entries.taken_at, ReadRows.{AreRead, Stand, all_at, are_read, each_taken, first_if}}
use Rattle.frame_laws.proofs.{ReadRows.{item_at-first, none_at, none_lacks}, RowCounts.{counted_both, counted_once}}
use Rattle.frame_laws.proofs.{RowCounts.{entries_of-append, rows_of-append}, SaidRows.{AreCounted, RowSays, are_apart}}
use Rattle.frame_laws.proofs.{SaidRows.{entries_of, items_at, row_once, rows_of}, Sections.{IsWritten, Section}}
use Rattle.frame_laws.proofs.Sections.{all_counted, end_of, rows_in, section_before_last, taken_in}

module _ {S K V : Type 0} where
  -- all its rows
  abbrev pub rows_to : Section S K V → Row K → Entry V → List (RowSays K V)
  rows_to section row last = rows_in section ++ row_once row last ∷ []

  -- their items are its items
  entries_same : (section : Section S K V) (row : Row K) (last : Entry V)
      → entries_of (rows_to section row last) ≡ entries_to section last
  entries_same section row last = entries_of-append (rows_in section) (row_once row last ∷ [])

module _ {S K V X : Type 0} (tables : Tables S K V X) (place : ℕ) (section : Section S K V) (row : Row K)
    (last : Entry V)
    (is : IsWritten tables section (row ∷ [])) (named : row.keyword ≡ last.keyword) where
  all_to : AreCounted (rows_to section row last)
  all_to =
      counted_both (rows_in section) (row_once row last ∷ []) (all_counted tables section (row ∷ []) is)
      (both_hold (counted_once row last named) tt)

  apart_to : are_apart (rows_of (rows_to section row last)) ≡ true
  apart_to = ap are_apart (rows_of-append (rows_in section) (row_once row last ∷ []) ∙ is.table) ∙ is.apart

  -- each of its rows is read where its items stand
  pub section_to_is_read : (limit : ℕ) (bytes : List ℕ) → Stand limit bytes place (entries_to section last)
      → AreRead limit bytes (taken_to place section last) place (rows_to section row last)
  section_to_is_read limit bytes stand =
      let all = rows_to section row last in
      let same_entries = entries_same section row last in
      subst (λ (l : List (Entry V)). AreRead limit bytes (all_taken place l) place all) same_entries
      (are_read limit bytes place all all_to apart_to
      (subst (λ (l : List (Entry V)). Stand limit bytes place l) (sym same_entries) stand))

  -- the item of its last row is its last item
  pub last_item : item_at (taken_to place section last) row.keyword ≡ Some (taken_at (end_of place section) last)
  last_item =
      let front = taken_in place section in
      let one = taken_at (end_of place section) last in
      item_at-first (taken_to place section last) row.keyword
      ∙ ap (λ (l : List (Taken V)). first_if (items_at l row.keyword)) (taken_to-parts place section last)
      ∙ ap first_if (filter-append (λ (other : Taken V). same other.keyword row.keyword) front (one ∷ [])
      ∙ ap (λ (l : List (Taken V)). l ++ items_at (one ∷ []) row.keyword)
      (none_at row.keyword front (section_before_last tables section row place is))
      ∙ all_at (end_of place section) row (last ∷ []) (both_hold named tt))

  -- with it a section lacks nothing
  pub section_to_whole : lacking_keyword (tables.rows section.name) (taken_to place section last) ≡ None
  section_to_whole =
      let all = rows_to section row last in
      let taken = all_taken place (entries_of all) in
      let table : rows_of all ≡ tables.rows section.name =
      rows_of-append (rows_in section) (row_once row last ∷ []) ∙ is.table in
      ap (λ (l : List (Entry V)). lacking_keyword (tables.rows section.name) (all_taken place l))
      (sym (entries_same section row last))
      ∙ ap (λ (l : List (Row K)). lacking_keyword l taken) (sym table)
      ∙ none_lacks taken place all all_to (each_taken place all all_to apart_to)
