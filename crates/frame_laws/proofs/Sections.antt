-- A section as it is written row by row, and what its table says of it.
use Rattle.std.proofs.Common.{◌≡◌, ℕ, true, false, List, [], ◌∷◌, ◌++◌, Option, None, sym, ap, ◌∙◌, append-nil}
use Rattle.std.proofs.lemmas.Bool.{and_parts}
use Rattle.frame_terms.specs.{Sections.{lacking_keyword, lacking_but, stands}, Tables.Tables}
use Rattle.frame_terms.specs.declared.{document.{Group.Group, Taken.Taken}, row.Row.Row}
use Rattle.frame_laws.proofs.{Both.both_hold, Entries.{Entry, after_one, all_taken, taken_at}, Limits.FitsIn}
use Rattle.frame_laws.proofs.{Limits.limit_inside, MoreRows.{none_after, none_before, rows_more}, Places.after_all}
use Rattle.frame_laws.proofs.ReadRows.{AreRead, Each, IsTaken, Stand, are_read, each_taken, none_but_last, none_lacks}
use Rattle.frame_laws.proofs.{ReadRows.none_of_rows, RowCounts.counted_once, SaidRows.{AreCounted, AreSaid, RowSays}}
use Rattle.frame_laws.proofs.{SaidRows.{are_apart, counted, entries_of, lack, row_once, rows_of}, Reading.AreMore}
use Rattle.frame_laws.proofs.TableRows.{apart_front, are_plain, lack_last, middle_in_table}

-- a section as it is written: its first item with its row, and the rows of those that open nothing and end nothing
pub record Section (S K V : Type 0) : Type 0 where
  pub name : S
  pub first : Row K
  pub opener : Entry V
  pub middle : List (RowSays K V)

module _ {S K V : Type 0} where
  -- its rows
  abbrev pub rows_in : Section S K V → List (RowSays K V)
  rows_in section = row_once section.first section.opener ∷ section.middle

  -- its items
  abbrev pub entries_in : Section S K V → List (Entry V)
  entries_in section = section.opener ∷ entries_of section.middle

  -- where those after the first begin
  abbrev pub second_place : ℕ → Section S K V → ℕ
  second_place place section = after_one place section.opener

  -- what is taken of it after the first
  abbrev pub others_in : ℕ → Section S K V → List (Taken V)
  others_in place section = all_taken (second_place place section) (entries_of section.middle)

  -- what is taken of it
  abbrev pub taken_in : ℕ → Section S K V → List (Taken V)
  taken_in place section = taken_at place section.opener ∷ others_in place section

  -- where it ends
  abbrev pub end_of : ℕ → Section S K V → ℕ
  end_of place section = after_all place (entries_in section)

-- The section has the rows of its table, of which no two have one keyword, but for these others at the end. Its first
-- item has the keyword of the first row, and each of the middle ones says what its row asks for.
pub record IsWritten {S K V X : Type 0} (tables : Tables S K V X) (section : Section S K V)
    (others : List (Row K)) : Type 0 where
  pub table : section.first ∷ (rows_of section.middle ++ others) ≡ tables.rows section.name
  pub apart : are_apart (tables.rows section.name) ≡ true
  pub plain : are_plain tables section.name section.middle ≡ true
  pub opens : section.first.keyword ≡ section.opener.keyword
  pub said : AreSaid tables section.middle

module _ {S K V X : Type 0} where
  -- its rows are apart
  pub rows_apart : (tables : Tables S K V X) (section : Section S K V) (others : List (Row K))
      → IsWritten tables section others
      → are_apart (rows_of (rows_in section)) ≡ true
  rows_apart tables section others is =
      apart_front (section.first ∷ rows_of section.middle) others (ap are_apart is.table ∙ is.apart)

  -- as many items stand of each as may
  pub all_counted : (tables : Tables S K V X) (section : Section S K V) (others : List (Row K))
      → IsWritten tables section others
      → AreCounted (rows_in section)
  all_counted tables section others is =
      both_hold (counted_once section.first section.opener is.opens) (counted tables section.middle is.said)

  -- the items of each row are what was taken of its keyword
  section_taken : (tables : Tables S K V X) (section : Section S K V) (others : List (Row K)) (place : ℕ)
      → IsWritten tables section others
      → Each (IsTaken (taken_in place section)) place (rows_in section)
  section_taken tables section others place is =
      each_taken place (rows_in section) (all_counted tables section others is) (rows_apart tables section others is)

  -- a section that has all rows of its table lacks nothing
  pub section_whole : (tables : Tables S K V X) (section : Section S K V) (place : ℕ) → IsWritten tables section []
      → lacking_keyword (tables.rows section.name) (taken_in place section) ≡ None
  section_whole tables section place is =
      let rows_ = rows_of (rows_in section) in
      ap (λ (l : List (Row K)). lacking_keyword l (taken_in place section)) (sym is.table ∙ append-nil rows_)
      ∙ none_lacks (taken_in place section) place (rows_in section) (all_counted tables section [] is)
      (section_taken tables section [] place is)

  -- one that has all but the last lacks no other
  pub section_but_last : (tables : Tables S K V X) (section : Section S K V) (last : Row K) (place : ℕ)
      → IsWritten tables section (last ∷ [])
      → lacking_but (tables.rows section.name) last.keyword (taken_in place section) ≡ None
  section_but_last tables section last place is =
      ap (λ (l : List (Row K)). lacking_but l last.keyword (taken_in place section)) (sym is.table)
      ∙ none_but_last (taken_in place section) place (rows_in section) last
      (all_counted tables section (last ∷ []) is)
      (section_taken tables section (last ∷ []) place is)

  -- and has no item of it
  pub section_before_last : (tables : Tables S K V X) (section : Section S K V) (last : Row K) (place : ℕ)
      → IsWritten tables section (last ∷ [])
      → stands last.keyword (taken_in place section) ≡ false
  section_before_last tables section last place is =
      none_of_rows last.keyword place (rows_in section) (all_counted tables section (last ∷ []) is)
      (lack_last (section.first ∷ rows_of section.middle) last (ap are_apart is.table ∙ is.apart))

  -- its items after the first are each one more of it
  pub section_more : (tables : Tables S K V X) (section : Section S K V) (others : List (Row K))
      (around : Option (Group S V)) (place : ℕ)
      → IsWritten tables section others
      → FitsIn (limit_inside tables section.name around) place (end_of place section)
      → AreMore tables section.name (taken_at place section.opener) [] around (second_place place section)
      (entries_of section.middle)
  section_more tables section others around place is within =
      let middle = section.middle in
      let named = both_hold is.opens tt in
      let parts =
      and_parts (lack section.first.keyword (rows_of middle)) (are_apart (rows_of middle))
      (rows_apart tables section others is) in
      rows_more tables section.name (taken_at place section.opener) [] around (second_place place section) middle
      (middle_in_table tables section.name section.first middle others is.table is.apart is.plain) is.said parts.1
      (none_after [] place section.first (section.opener ∷ []) middle named parts.0 (none_before middle)) within

  -- each of its rows is read where its items stand
  pub section_is_read : (tables : Tables S K V X) (limit : ℕ) (bytes : List ℕ) (place : ℕ) (section : Section S K V)
      (others : List (Row K))
      → IsWritten tables section others → Stand limit bytes place (entries_in section)
      → AreRead limit bytes (taken_in place section) place (rows_in section)
  section_is_read tables limit bytes place section others is stand =
      are_read limit bytes place (rows_in section) (all_counted tables section others is)
      (rows_apart tables section others is) stand
