-- Sections whose rows are written in another order than that of their table: such that follow one another are read.
use Rattle.std.proofs.{Common.{◌≡◌, ℕ, true, List, [], ◌∷◌, ◌++◌, Option, None, ap, ◌∙◌, Result}, lemmas.Bool.and_parts}
use Rattle.std.specs.Prelude.{map}
use Rattle.item_terms.specs.{Items.Item, declared.fault.DocFault.DocFault}
use Rattle.dirdoc_grammar.specs.Writing.{all_written, written}
use Rattle.frame_terms.specs.{Documents.{Document, group, onto, read_items}, Sections.lacking_keyword, Tables.Tables}
use Rattle.frame_terms.specs.declared.{document.{Made.TheVariants.Opens, Taken.Taken}, fault.ReadRefusal.ReadRefusal}
use Rattle.frame_laws.proofs.{Both.both_hold, Entries.{Suits, item_of, taken_at}, Following.{MayFollow, entries_all}}
use Rattle.frame_laws.proofs.{Following.{groups_of, last_first, last_name, last_others, onto_all}, MoreRows.AreInTable}
use Rattle.frame_laws.proofs.{MoreRows.{none_after, none_before, rows_more}, Places.both_written, ReadRows.AreRead}
use Rattle.frame_laws.proofs.{ReadRows.{Stand, are_read}, Reading.{AreMore, read_on, takes_more}, Remembered.Notes}
use Rattle.frame_laws.proofs.{RowCounts.counted_once, SaidRows.{AreCounted, AreSaid, are_apart, counted, entries_of}}
use Rattle.frame_laws.proofs.{SaidRows.{lack, rows_of}, Sections.{Section, end_of, entries_in, others_in, rows_in}}
use Rattle.frame_laws.proofs.{Sections.{second_place, taken_in}, Steps.opening}

-- The rows of the section are of its table, no two have one keyword, and each says what it asks for. What is taken of
-- them lacks nothing.
pub record IsWhole {S K V X : Type 0} (tables : Tables S K V X) (section : Section S K V) : Type 0 where
  pub in_table : AreInTable tables section.name section.middle
  pub said : AreSaid tables section.middle
  pub apart : are_apart (rows_of (rows_in section)) ≡ true
  pub opens : section.first.keyword ≡ section.opener.keyword
  pub whole : (place : ℕ) → lacking_keyword (tables.rows section.name) (taken_in place section) ≡ None

module _ {S K V X : Type 0} where
  all_counted : (tables : Tables S K V X) (section : Section S K V) → IsWhole tables section
      → AreCounted (rows_in section)
  all_counted tables section is =
      both_hold (counted_once section.first section.opener is.opens) (counted tables section.middle is.said)

  -- its items after the first are each one more of it
  section_more : (tables : Tables S K V X) (section : Section S K V) (place : ℕ) → IsWhole tables section
      → AreMore tables section.name (taken_at place section.opener) [] None (second_place place section)
      (entries_of section.middle)
  section_more tables section place is =
      let middle = section.middle in
      let named = both_hold is.opens tt in
      let parts =
      and_parts (lack section.first.keyword (rows_of middle)) (are_apart (rows_of middle)) is.apart in
      rows_more tables section.name (taken_at place section.opener) [] None (second_place place section) middle
      is.in_table is.said parts.1
      (none_after [] place section.first (section.opener ∷ []) middle named parts.0 (none_before middle)) tt

  -- each of its rows is read where its items stand
  pub whole_is_read : (tables : Tables S K V X) (limit : ℕ) (bytes : List ℕ) (place : ℕ) (section : Section S K V)
      → IsWhole tables section → Stand limit bytes place (entries_in section)
      → AreRead limit bytes (taken_in place section) place (rows_in section)
  whole_is_read tables limit bytes place section is stand =
      are_read limit bytes place (rows_in section) (all_counted tables section is) is.apart stand

  -- a section that follows another is read
  section_read : (tables : Tables S K V X) (length : ℕ) (across after : X) (before : S) (first : Taken V)
      (taken : List (Taken V)) (place : ℕ)
      (section : Section S K V) (fault : Option DocFault) (items : List Item)
      → lacking_keyword (tables.rows before) (first ∷ taken) ≡ None → MayFollow tables before section.name section.first
      → IsWhole tables section → Suits tables across section.first place section.opener
      → Notes tables across (taken_in place section) after
      → read_items tables length across (opening before (first ∷ taken) None) fault
      (all_written place (map item_of (entries_in section)) ++ items)
      ≡ onto (group before (first ∷ taken))
      (read_items tables length after (opening section.name (taken_in place section) None) fault items)
  section_read tables length across after before first taken place section fault items whole follows is suits notes =
      let one = taken_at place section.opener in
      let next = second_place place section in
      let middle = entries_of section.middle in
      read_on tables length across notes.0 (opening before (first ∷ taken) None) fault
      (written place (item_of section.opener))
      (all_written next (map item_of middle) ++ items) (Opens section.name one)
      (follows across first taken place section.opener whole suits) notes.1
      ∙ ap (λ (r : Result (Document S V) ReadRefusal). onto (group before (first ∷ taken)) r)
      (takes_more tables length notes.0 after section.name one [] None fault next middle items notes.2
      (section_more tables section place is))

-- The section may stand behind this one, and is written whole. Its first item suits where this is remembered, and
-- that is remembered after its items.
pub record IsNext {S K V X : Type 0} (tables : Tables S K V X) (across : X) (before : S) (place : ℕ)
    (section : Section S K V) (after : X) : Type 0 where
  pub follows : MayFollow tables before section.name section.first
  pub written : IsWhole tables section
  pub suits : Suits tables across section.first place section.opener
  pub notes : Notes tables across (taken_in place section) after

module _ {S K V X : Type 0} where
  -- each section may follow the one before it, and that is remembered after the last
  abbrev pub AreNext : Tables S K V X → X → S → ℕ → List (Section S K V) → X → Type 0
  AreNext tables across before place [] after = across ≡ after
  AreNext tables across before place (section ∷ list) after =
      (next : X) × IsNext tables across before place section next × AreNext tables next section.name
      (end_of place section) list after

  -- Sections that follow one another are read, each a group.
  pub sections_read : (tables : Tables S K V X) (length : ℕ) (across after : X) (before : S) (first : Taken V)
      (taken : List (Taken V)) (place : ℕ)
      (list : List (Section S K V)) (fault : Option DocFault) (items : List Item)
      → lacking_keyword (tables.rows before) (first ∷ taken) ≡ None
      → AreNext tables across before place list after
      → read_items tables length across (opening before (first ∷ taken) None) fault
      (all_written place (map item_of (entries_all list)) ++ items)
      ≡ onto_all (groups_of before (first ∷ taken) place list)
      (read_items tables length after
      (opening (last_name before list) (last_first first place list ∷ last_others taken place list) None) fault items)
  sections_read tables length across after before first taken place [] fault items whole are =
      ap (λ (x : X). read_items tables length x (opening before (first ∷ taken) None) fault items) are
  sections_read tables length across after before first taken place (section ∷ list) fault items whole are =
      let next = end_of place section in
      let one = taken_at place section.opener in
      let is = are.1 in
      ap (λ (l : List Item). read_items tables length across (opening before (first ∷ taken) None) fault l)
      (both_written place (entries_in section) (entries_all list) items)
      ∙ section_read tables length across are.0 before first taken place section fault
      (all_written next (map item_of (entries_all list)) ++ items)
      whole is.follows is.written is.suits is.notes
      ∙ ap (λ (r : Result (Document S V) ReadRefusal). onto (group before (first ∷ taken)) r)
      (sections_read tables length are.0 after section.name one (others_in place section) next list fault items
      (is.written.whole place) are.2)

  -- what is open after them lacks nothing
  pub last_whole : (tables : Tables S K V X) (across after : X) (before : S) (first : Taken V)
      (taken : List (Taken V)) (place : ℕ)
      (list : List (Section S K V)) → lacking_keyword (tables.rows before) (first ∷ taken) ≡ None
      → AreNext tables across before place list after
      → lacking_keyword (tables.rows (last_name before list)) (last_first first place list ∷ last_others taken place list)
      ≡ None
  last_whole tables across after before first taken place [] whole are = whole
  last_whole tables across after before first taken place (section ∷ list) whole are =
      last_whole tables are.0 after section.name (taken_at place section.opener) (others_in place section)
      (end_of place section) list
      (are.1.written.whole place) are.2
