-- Sections that follow one another are read.
use Rattle.std.proofs.Common.{◌≡◌, ℕ, Bool, true, List, [], ◌∷◌, ◌++◌, Option, Some, None, Result, Ok, sym, ap, subst}
use Rattle.std.{proofs.Common.◌∙◌, specs.Prelude.{map, if◌then◌else◌}}
use Rattle.item_terms.specs.{Items.Item, declared.fault.DocFault.DocFault}
use Rattle.dirdoc_grammar.specs.Writing.{all_written, written}
use Rattle.frame_terms.specs.{Decisions.{first_item, made_by, made_first, unless_refused}, Documents.{Document, group}}
use Rattle.frame_terms.specs.{Documents.{onto, read_items, start}, Order.{begins_document, inner, opener}}
use Rattle.frame_terms.specs.{Sections.{lacking_keyword, row_of}, Standing.{as_made, begins, by_keyword}, Tables.Tables}
use Rattle.frame_terms.specs.declared.document.{Group.Group, Made.{Made, TheVariants.{Pushes, Opens}}, Taken.Taken}
use Rattle.frame_terms.specs.declared.fault.{FrameReason.TheVariants.Missing, ReadRefusal.ReadRefusal}
use Rattle.frame_terms.specs.declared.{keyword.Keyword.Keyword, row.Row.Row}
use Rattle.frame_terms.specs.declared.section.Again.TheVariants as again
use Rattle.frame_laws.proofs.{Entries.{Entry, Suits, item_of, taken_at}, KnownWords.known, Limits.fits}
use Rattle.frame_laws.proofs.{Places.both_written, Remembered.Notes, SaidRows.entries_of, Sections.{IsWritten, Section}}
use Rattle.frame_laws.proofs.Sections.{end_of, entries_in, others_in, second_place, section_more, section_whole}
use Rattle.frame_laws.proofs.{Sections.taken_in, Reading.{read_on, takes_more}, Steps.{IsAgain, IsOpener, accepted}}
use Rattle.frame_laws.proofs.Steps.{again_of, made_by-later, new_of_none, opener_of, opening}

-- ---- a section that follows another

module _ {S K V X : Type 0} where
  -- An item that suits this row opens the section after another one that lacks nothing.
  abbrev pub MayFollow : Tables S K V X → S → S → Row K → Type 0
  MayFollow tables before next row =
      (across : X) (first : Taken V) (taken : List (Taken V)) (place : ℕ) (entry : Entry V)
      → lacking_keyword (tables.rows before) (first ∷ taken) ≡ None
      → Suits tables across row place entry
      → made_by tables across (opening before (first ∷ taken) None) (written place (item_of entry))
      ≡ Ok (Opens next (taken_at place entry))

  -- what an item makes is by its keyword, where it begins no section inside the one that is open
  by_its_keyword : (tables : Tables S K V X) (across : X) (section : S) (first : Taken V) (taken : List (Taken V))
      (place : ℕ) (entry : Entry V)
      (keyword : Keyword) → keyword ≡ entry.keyword
      → inner tables section keyword ≡ None
      → made_by tables across (opening section (first ∷ taken) None) (written place (item_of entry))
      ≡ by_keyword tables across (opening section (first ∷ taken) None) (written place (item_of entry)) (Some keyword)
  by_its_keyword tables across section first taken place entry keyword k inside =
      made_by-later tables across section first taken None place entry
      (fits tables section first taken None place entry entry.keyword
      (subst (λ (w : Keyword). inner tables section w ≡ None) k inside) tt)
      ∙ ap (λ (w : Keyword). by_keyword tables across (opening section (first ∷ taken) None)
      (written place (item_of entry)) (Some w)) (sym k)

  -- a later section may follow
  pub opener_follows : (tables : Tables S K V X) (before next : S) (row : Row K)
      → inner tables before row.keyword ≡ None → IsOpener tables before next row → MayFollow tables before next row
  opener_follows tables before next row inside opens across first taken place entry whole suits =
      by_its_keyword tables across before first taken place entry row.keyword suits.keyword inside
      ∙ opener_of tables across (opening before (first ∷ taken) None) next place entry row opens whole suits

  -- a section that repeats may follow itself
  pub repeated_follows : (tables : Tables S K V X) (section : S) (row : Row K)
      → inner tables section row.keyword ≡ None → IsAgain tables section row again.Section
      → MayFollow tables section section row
  repeated_follows tables section row inside here across first taken place entry whole suits =
      by_its_keyword tables across section first taken place entry row.keyword suits.keyword inside
      ∙ again_of tables across (opening section (first ∷ taken) None) place entry row here whole suits

  -- a section that follows another is read
  pub section_read : (tables : Tables S K V X) (length : ℕ) (across after : X) (before : S) (first : Taken V)
      (taken : List (Taken V)) (place : ℕ)
      (section : Section S K V) (others : List (Row K)) (fault : Option DocFault) (items : List Item)
      → lacking_keyword (tables.rows before) (first ∷ taken) ≡ None → MayFollow tables before section.name section.first
      → IsWritten tables section others → Suits tables across section.first place section.opener
      → Notes tables across (taken_in place section) after
      → read_items tables length across (opening before (first ∷ taken) None) fault
      (all_written place (map item_of (entries_in section)) ++ items)
      ≡ onto (group before (first ∷ taken))
      (read_items tables length after (opening section.name (taken_in place section) None) fault items)
  section_read tables length across after before first taken place section others fault items whole follows is suits
      notes =
      let one = taken_at place section.opener in
      let next = second_place place section in
      let middle = entries_of section.middle in
      read_on tables length across notes.0 (opening before (first ∷ taken) None) fault
      (written place (item_of section.opener))
      (all_written next (map item_of middle) ++ items) (Opens section.name one)
      (follows across first taken place section.opener whole suits) notes.1
      ∙ ap (λ (r : Result (Document S V) ReadRefusal). onto (group before (first ∷ taken)) r)
      (takes_more tables length notes.0 after section.name one [] None fault next middle items notes.2
      (section_more tables section others None place is tt))

-- ---- sections one after the other

-- The section may stand behind this one, and is written whole. Its first item suits where this is remembered, and
-- that is remembered after its items.
pub record IsNext {S K V X : Type 0} (tables : Tables S K V X) (across : X) (before : S) (place : ℕ)
    (section : Section S K V) (after : X) : Type 0 where
  pub follows : MayFollow tables before section.name section.first
  pub written : IsWritten tables section []
  pub suits : Suits tables across section.first place section.opener
  pub notes : Notes tables across (taken_in place section) after

module _ {S K V : Type 0} where
  -- the items of sections
  abbrev pub entries_all : List (Section S K V) → List (Entry V)
  entries_all [] = []
  entries_all (section ∷ list) = entries_in section ++ entries_all list

  -- the groups that end where each section begins, of which the first was open before
  abbrev pub groups_of : S → List (Taken V) → ℕ → List (Section S K V) → List (Group S V)
  groups_of before taken place [] = []
  groups_of before taken place (section ∷ list) =
      group before taken ∷ groups_of section.name (taken_in place section) (end_of place section) list

  -- the section that is open after them
  abbrev pub last_name : S → List (Section S K V) → S
  last_name before [] = before
  last_name before (section ∷ list) = last_name section.name list

  -- the first item that was taken of it, and the others
  abbrev pub last_first : Taken V → ℕ → List (Section S K V) → Taken V
  last_first first place [] = first
  last_first first place (section ∷ list) = last_first (taken_at place section.opener) (end_of place section) list

  abbrev pub last_others : List (Taken V) → ℕ → List (Section S K V) → List (Taken V)
  last_others taken place [] = taken
  last_others taken place (section ∷ list) = last_others (others_in place section) (end_of place section) list

module _ {S V : Type 0} where
  -- groups in front of those that follow
  abbrev pub onto_all : List (Group S V) → Result (Document S V) ReadRefusal → Result (Document S V) ReadRefusal
  onto_all [] more = more
  onto_all (one ∷ groups) more = onto one (onto_all groups more)

module _ {S K V X : Type 0} where
  -- each section may follow the one before it, and that is remembered after the last
  abbrev pub AreNext : Tables S K V X → X → S → ℕ → List (Section S K V) → X → Type 0
  AreNext tables across before place [] after = across ≡ after
  AreNext tables across before place (section ∷ list) after =
      (next : X) × IsNext tables across before place section next × AreNext tables next section.name
      (end_of place section) list after

  -- Sections that follow one another are read, each a group. By induction on the list: it may be as long as it likes,
  -- as that of the entries of a vote.
  pub sections_read : (tables : Tables S K V X) (length : ℕ) (across after : X) (before : S) (first : Taken V)
      (taken : List (Taken V)) (place : ℕ)
      (list : List (Section S K V)) (fault : Option DocFault) (items : List Item)
      → lacking_keyword (tables.rows before) (first ∷ taken) ≡ None
      → AreNext tables across before place list after
      → read_items tables length across (opening before (first ∷ taken) None) fault
      (all_written place (map item_of (entries_all list)) ++ items)
      ≡ onto_all (groups_of before (first ∷ taken) place list)
      (read_items tables length after
      (opening (last_name before list) (last_first first place list ∷ last_others taken place list) None) fault items)
  sections_read tables length across after before first taken place [] fault items whole are =
      ap (λ (x : X). read_items tables length x (opening before (first ∷ taken) None) fault items) are
  sections_read tables length across after before first taken place (section ∷ list) fault items whole are =
      let next = end_of place section in
      let one = taken_at place section.opener in
      let is = are.1 in
      ap (λ (l : List Item). read_items tables length across (opening before (first ∷ taken) None) fault l)
      (both_written place (entries_in section) (entries_all list) items)
      ∙ section_read tables length across are.0 before first taken place section [] fault
      (all_written next (map item_of (entries_all list)) ++ items)
      whole is.follows is.written is.suits is.notes
      ∙ ap (λ (r : Result (Document S V) ReadRefusal). onto (group before (first ∷ taken)) r)
      (sections_read tables length are.0 after section.name one (others_in place section) next list fault items
      (section_whole tables section place is.written) are.2)

  -- what is open after them lacks nothing
  pub last_whole : (tables : Tables S K V X) (across after : X) (before : S) (first : Taken V)
      (taken : List (Taken V)) (place : ℕ)
      (list : List (Section S K V)) → lacking_keyword (tables.rows before) (first ∷ taken) ≡ None
      → AreNext tables across before place list after
      → lacking_keyword (tables.rows (last_name before list)) (last_first first place list ∷ last_others taken place list)
      ≡ None
  last_whole tables across after before first taken place [] whole are = whole
  last_whole tables across after before first taken place (section ∷ list) whole are =
      last_whole tables are.0 after section.name (taken_at place section.opener) (others_in place section)
      (end_of place section) list
      (section_whole tables section place are.1.written) are.2

-- ---- the first section

-- what the tables say of the first item of a document
pub record IsFirst {S K V X : Type 0} (tables : Tables S K V X) (row : Row K) : Type 0 where
  pub begins : begins_document tables (Some row.keyword) ≡ true
  pub row_there : row_of (tables.rows tables.first) row.keyword ≡ Some row

module _ {S K V X : Type 0} where
  -- the first item of a document
  pub first_made : (tables : Tables S K V X) (across : X) (place : ℕ) (entry : Entry V) (row : Row K)
      → IsFirst tables row
      → Suits tables across row place entry
      → made_by tables across (start tables) (written place (item_of entry)) ≡ Ok (Pushes (taken_at place entry))
  first_made tables across place entry row is suits =
      let item = written place (item_of entry) in
      let k = row.keyword in
      let made : Option Keyword → Result (Made S V) ReadRefusal =
      λ word. made_first tables across item word in
      let begun : Result (Made S V) ReadRefusal = first_item tables across item (Some k) in
      ap made (known entry.keyword ∙ ap (λ (w : Keyword). Some w) (sym suits.keyword))
      ∙ ap (λ (t : Bool). unless_refused place
      (if t then None else Some (Missing (opener tables tables.first))) begun) is.begins
      ∙ ap (λ (r : Option (Row K)). begins tables across Pushes item r) is.row_there
      ∙ ap (λ (r : Result (Taken V) ReadRefusal). as_made Pushes r)
      (accepted tables across row [] place entry (new_of_none V row) suits)

  -- the first section of a document is read
  pub first_read : (tables : Tables S K V X) (length : ℕ) (across after : X) (place : ℕ) (section : Section S K V)
      (others : List (Row K))
      (fault : Option DocFault) (items : List Item) → section.name ≡ tables.first → IsFirst tables section.first
      → IsWritten tables section others → Suits tables across section.first place section.opener
      → Notes tables across (taken_in place section) after
      → read_items tables length across (start tables) fault
      (all_written place (map item_of (entries_in section)) ++ items)
      ≡ read_items tables length after (opening section.name (taken_in place section) None) fault items
  first_read tables length across after place section others fault items name is wrote suits notes =
      let one = taken_at place section.opener in
      let next = second_place place section in
      let middle = entries_of section.middle in
      let rest = all_written next (map item_of middle) ++ items in
      read_on tables length across notes.0 (start tables) fault (written place (item_of section.opener)) rest
      (Pushes one)
      (first_made tables across place section.opener section.first is suits) notes.1
      ∙ ap (λ (s : S). read_items tables length notes.0 (opening s (one ∷ []) None) fault rest) (sym name)
      ∙ takes_more tables length notes.0 after section.name one [] None fault next middle items notes.2
      (section_more tables section others None place wrote tt)
