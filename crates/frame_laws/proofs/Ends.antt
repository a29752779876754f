-- Sections that end are read: with their last item, as a document's last section or inside another; at the input's
-- end; and before the next document.
use Rattle.std.proofs.Common.{◌≡◌, ℕ, ◌≤◌, Bool, false, List, [], ◌∷◌, ◌++◌, Option, Some, None, Result, Ok, refl, sym}
use Rattle.std.{proofs.{Common.{ap, subst, ◌∙◌}, lemmas.Bool.and_right}, specs.Prelude.{map, not, if◌then◌else◌}}
use Rattle.item_terms.specs.{Items.Item, declared.fault.DocFault.DocFault}
use Rattle.dirdoc_grammar.specs.Writing.{all_written, written}
use Rattle.frame_terms.specs.{Decisions.{beyond_inside, beyond_inner, made_by}, Documents.{Document, closed_at, go_on}}
use Rattle.frame_terms.specs.{Documents.{group, note_of_made, onto, read_items, start}, Order.first_of}
use Rattle.frame_terms.specs.{Order.{following_sections, inner, must_open}, Rows.is_many, Sections.lacking_keyword}
use Rattle.frame_terms.specs.{Sections.stands, Standing.{by_keyword, ends, enters}, Tables.Tables}
use Rattle.frame_terms.specs.declared.document.{Group.Group, Made.TheVariants.{Enters, Opens, Pushes, Stops}}
use Rattle.frame_terms.specs.declared.{document.Taken.Taken, fault.{FrameFault.FrameFault, ReadRefusal.ReadRefusal}}
use Rattle.frame_terms.specs.declared.{keyword.Keyword.Keyword, row.Row.Row}
use Rattle.frame_laws.proofs.{Both.as_ok, Entries.{AlwaysSuits, Entry, Suits, after_one, all_taken, item_of, taken_at}}
use Rattle.frame_laws.proofs.{Following.{IsFirst, MayFollow, first_made}, Limits.{FitsIn, fits, fits_before}}
use Rattle.frame_laws.proofs.{Limits.{limit_inside, not_beyond}, Places.{after_all, after_all-append, after_all-back}}
use Rattle.frame_laws.proofs.{Places.{all_taken-append, both_written}, Remembered.{Notes, notes_parts}}
use Rattle.frame_laws.proofs.{SaidRows.entries_of, Sections.{IsWritten, Section, end_of, entries_in, others_in}}
use Rattle.frame_laws.proofs.Sections.{second_place, section_before_last, section_but_last, section_more, taken_in}
use Rattle.frame_laws.proofs.{Reading.{read_on, takes_more}, Steps.{IsAmong, IsLastOf, among, last_of, made_by-later}}
use Rattle.frame_laws.proofs.Steps.{opening}

-- its last item has this row of the table, and suits it
pub record IsEnded {S K V X : Type 0} (tables : Tables S K V X) (section : Section S K V) (row : Row K)
    (last : Entry V) : Type 0 where
  pub written : IsWritten tables section (row ∷ [])
  pub ends_it : IsLastOf tables section.name row
  pub inside : inner tables section.name row.keyword ≡ None
  pub suits : AlwaysSuits tables row last

module _ {S K V : Type 0} where
  -- all its items
  abbrev pub entries_to : Section S K V → Entry V → List (Entry V)
  entries_to section last = entries_in section ++ last ∷ []

  -- what is taken of them
  abbrev pub taken_to : ℕ → Section S K V → Entry V → List (Taken V)
  taken_to place section last = all_taken place (entries_to section last)

  -- that is what is taken of the section and of its last item
  pub taken_to-parts : (place : ℕ) (section : Section S K V) (last : Entry V)
      → taken_to place section last ≡ taken_in place section ++ taken_at (end_of place section) last ∷ []
  taken_to-parts place section last = all_taken-append place (entries_in section) (last ∷ [])

  -- where it ends
  abbrev pub end_with : ℕ → Section S K V → Entry V → ℕ
  end_with place section last = after_all place (entries_to section last)

  -- that is where its last item ends
  pub end_with-last : (place : ℕ) (section : Section S K V) (last : Entry V)
      → end_with place section last ≡ after_one (end_of place section) last
  end_with-last place section last = after_all-append place (entries_in section) (last ∷ [])

  -- its first item ends no later
  pub first_ends : (place : ℕ) (section : Section S K V) (last : Entry V)
      → after_one place section.opener ≤ end_with place section last
  first_ends place section last = after_all-back (second_place place section) (entries_of section.middle ++ last ∷ [])

module _ {S K V X : Type 0} where
  -- what is remembered with a section's last item
  noted_last : (tables : Tables S K V X) (around : Option (Group S V)) (one : Taken V) (across : X)
      → note_of_made tables (ends around one) across ≡ tables.note across one
  noted_last tables None one across = refl
  noted_last tables (Some around) one across = refl

-- What the items after the first make of a document in which the section was begun: they are taken, and the last one
-- ends it.
module _ {S K V X : Type 0} (tables : Tables S K V X) (length : ℕ) (after : X) (place : ℕ) (section : Section S K V)
    (row : Row K) (last : Entry V)
    (fault : Option DocFault) (items : List Item) (is : IsEnded tables section row last) where
  -- its last item
  last_made : (across : X) (around : Option (Group S V))
      → FitsIn (limit_inside tables section.name around) place (end_with place section last)
      → made_by tables across (opening section.name (taken_in place section) around)
      (written (end_of place section) (item_of last))
      ≡ Ok (ends around (taken_at (end_of place section) last))
  last_made across around within =
      let end = end_of place section in
      let item = written end (item_of last) in
      let suits = is.suits across end in
      let k = suits.keyword in
      let in_last =
      subst (λ (n : ℕ). FitsIn (limit_inside tables section.name around) place n)
      (end_with-last place section last) within in
      let here = opening section.name (taken_in place section) around in
      made_by-later tables across section.name (taken_at place section.opener)
      (others_in place section) around end last
      (fits tables section.name (taken_at place section.opener) (others_in place section) around end last last.keyword
      (subst (λ (w : Keyword). inner tables section.name w ≡ None) k is.inside) in_last)
      ∙ ap (λ (w : Keyword). by_keyword tables across here item (Some w)) (sym k)
      ∙ last_of tables across here end last row is.ends_it (section_but_last tables section row place is.written)
      (and_right (not (is_many row.count)) (stands row.keyword (taken_in place section))
      (section_before_last tables section row place is.written)) suits

  others_read : (across : X) (around : Option (Group S V))
      → FitsIn (limit_inside tables section.name around) place (end_with place section last)
      → Notes tables across (all_taken (second_place place section) (entries_of section.middle ++ last ∷ [])) after
      → read_items tables length across (opening section.name (taken_at place section.opener ∷ []) around) fault
      (all_written (second_place place section) (map item_of (entries_of section.middle ++ last ∷ [])) ++ items)
      ≡ go_on (ends around (taken_at (end_of place section) last))
      (opening section.name (taken_in place section) around)
      (written (end_of place section) (item_of last)) (λ next. read_items tables length after next fault items)
  others_read across around within notes =
      let entries = entries_of section.middle in
      let next = second_place place section in
      let end = end_of place section in
      let one = taken_at place section.opener in
      let late = taken_at end last in
      let item = written end (item_of last) in
      let parts = notes_parts tables across (others_in place section) (late ∷ []) after
      (subst (λ (l : List (Taken V)). Notes tables across l after) (all_taken-append next entries (last ∷ [])) notes)
      in
      let between = parts.0 in
      let limit = limit_inside tables section.name around in
      let size = subst (λ (n : ℕ). FitsIn limit place n) (end_with-last place section last) within in
      let near = fits_before limit place end (after_one end last) (after_all-back end (last ∷ [])) size in
      let remembers = noted_last tables around late between ∙ parts.2.1 ∙ ap (as_ok {E = FrameFault}) parts.2.2 in
      ap (λ (l : List Item). read_items tables length across (opening section.name (one ∷ []) around) fault l)
      (both_written next entries (last ∷ []) items)
      ∙ takes_more tables length across between section.name one [] around fault next entries (item ∷ items) parts.1
      (section_more tables section (row ∷ []) around place is.written near)
      ∙ read_on tables length between after (opening section.name (taken_in place section) around) fault item items
      (ends around late)
      (last_made between around within) remembers

  -- the document that ends with a section
  abbrev pub document_with : List (Taken V) → ℕ → Result (Document S V) ReadRefusal
  document_with taken used = Ok (record { groups = group section.name taken ∷ []; used = used })

  -- The section of which the first item was taken is a document's last.
  pub last_read : (across : X)
      → Notes tables across (all_taken (second_place place section) (entries_of section.middle ++ last ∷ [])) after
      → read_items tables length across (opening section.name (taken_at place section.opener ∷ []) None) fault
      (all_written (second_place place section) (map item_of (entries_of section.middle ++ last ∷ [])) ++ items)
      ≡ document_with (taken_to place section last) (end_with place section last)
  last_read across notes =
      others_read across None tt notes
      ∙ ap (λ (l : List (Taken V)). document_with l (after_one (end_of place section) last))
      (sym (taken_to-parts place section last))
      ∙ ap (λ (n : ℕ). document_with (taken_to place section last) n) (sym (end_with-last place section last))

  -- A section that follows another is the last.
  pub end_read : (across : X) (before : S) (first : Taken V) (taken : List (Taken V))
      → lacking_keyword (tables.rows before) (first ∷ taken) ≡ None
      → MayFollow tables before section.name section.first → Suits tables across section.first place section.opener
      → Notes tables across (taken_to place section last) after
      → read_items tables length across (opening before (first ∷ taken) None) fault
      (all_written place (map item_of (entries_to section last)) ++ items)
      ≡ onto (group before (first ∷ taken))
      (document_with (taken_to place section last) (end_with place section last))
  end_read across before first taken whole follows suits notes =
      let one = taken_at place section.opener in
      let others =
      all_written (second_place place section) (map item_of (entries_of section.middle ++ last ∷ [])) ++ items in
      read_on tables length across notes.0 (opening before (first ∷ taken) None) fault
      (written place (item_of section.opener)) others
      (Opens section.name one) (follows across first taken place section.opener whole suits) notes.1
      ∙ ap (λ (r : Result (Document S V) ReadRefusal). onto (group before (first ∷ taken)) r)
      (last_read notes.0 notes.2)

  -- A section that stands alone is a document.
  pub alone_read : (across : X) → section.name ≡ tables.first → IsFirst tables section.first
      → Suits tables across section.first place section.opener
      → Notes tables across (taken_to place section last) after
      → read_items tables length across (start tables) fault
      (all_written place (map item_of (entries_to section last)) ++ items)
      ≡ document_with (taken_to place section last) (end_with place section last)
  alone_read across name first suits notes =
      let one = taken_at place section.opener in
      let others =
      all_written (second_place place section) (map item_of (entries_of section.middle ++ last ∷ [])) ++ items in
      read_on tables length across notes.0 (start tables) fault (written place (item_of section.opener)) others
      (Pushes one)
      (first_made tables across place section.opener section.first first suits) notes.1
      ∙ ap (λ (s : S). read_items tables length notes.0 (opening s (one ∷ []) None) fault others) (sym name)
      ∙ last_read notes.0 notes.2

  -- The section whose first item begins it inside another.
  pub inside_read : (across : X) (outer : S) (first : Taken V) (taken : List (Taken V))
      → FitsIn ((tables.shape section.name).limit) place (end_with place section last)
      → made_by tables across (opening outer (first ∷ taken) None) (written place (item_of section.opener))
      ≡ Ok (Enters section.name (taken_at place section.opener))
      → Notes tables across (taken_to place section last) after
      → read_items tables length across (opening outer (first ∷ taken) None) fault
      (all_written place (map item_of (entries_to section last)) ++ items)
      ≡ onto (group section.name (taken_to place section last))
      (read_items tables length after
      (opening outer (first ∷ (taken ++ taken_at place section.opener ∷ [])) None) fault items)
  inside_read across outer first taken within enters_it notes =
      let one = taken_at place section.opener in
      let around = group outer (first ∷ (taken ++ one ∷ [])) in
      let others =
      all_written (second_place place section) (map item_of (entries_of section.middle ++ last ∷ [])) ++ items in
      let more = read_items tables length after (opening outer (first ∷ (taken ++ one ∷ [])) None) fault items in
      read_on tables length across notes.0 (opening outer (first ∷ taken) None) fault
      (written place (item_of section.opener)) others
      (Enters section.name one) enters_it notes.1
      ∙ others_read notes.0 (Some around) within notes.2
      ∙ ap (λ (l : List (Taken V)). onto (group section.name l) more) (sym (taken_to-parts place section last))

-- ---- a section inside another

module _ {S K V X : Type 0} where
  -- The first item of a section inside another, which is an item of both.
  pub entering : (tables : Tables S K V X) (across : X) (outer section : S) (first : Taken V) (taken : List (Taken V))
      (place : ℕ) (entry : Entry V)
      (row : Row K) → IsAmong tables outer row
      → inner tables outer row.keyword ≡ Some section
      → stands row.keyword (first ∷ taken) ≡ false
      → FitsIn ((tables.shape section).limit) place (after_one place entry)
      → Suits tables across row place entry
      → made_by tables across (opening outer (first ∷ taken) None) (written place (item_of entry))
      ≡ Ok (Enters section (taken_at place entry))
  entering tables across outer section first taken place entry row here inside new within suits =
      let item = written place (item_of entry) in
      let k = suits.keyword in
      let open_ = opening outer (first ∷ taken) None in
      let no_fault : beyond_inner tables outer (first ∷ taken) None item (Some row.keyword) ≡ None =
      ap (λ (t : Bool). beyond_inside tables item (if t then None else inner tables outer row.keyword)) new
      ∙ ap (λ (s : Option S). beyond_inside tables item s) inside
      ∙ not_beyond ((tables.shape section).limit) place item within in
      made_by-later tables across outer first taken None place entry
      (subst (λ (w : Keyword). beyond_inner tables outer (first ∷ taken) None item (Some w) ≡ None) k no_fault)
      ∙ ap (λ (w : Keyword). by_keyword tables across open_ item (Some w)) (sym k)
      ∙ among tables across open_ place entry row here
      (and_right (not (is_many row.count)) (stands row.keyword (first ∷ taken)) new) suits
      ∙ ap (λ (s : Option S). as_ok {E = ReadRefusal} (enters s (taken_at place entry))) inside

  -- ---- ends without a last item

  -- At the input's end the section that is open is the last, where it lacks nothing and no other has to follow.
  pub closed_read : (tables : Tables S K V X) (length : ℕ) (across : X) (section : S) (taken : List (Taken V))
      → lacking_keyword (tables.rows section) taken ≡ None → must_open tables (following_sections tables section) ≡ None
      → read_items tables length across (opening section taken None) None []
      ≡ Ok (record { groups = group section taken ∷ []; used = length })
  unfolding read_items
  closed_read tables length across section taken whole none =
      let open_ = opening section taken None in
      ap (λ (m : Option Keyword). closed_at length open_ (first_of m (must_open tables (following_sections tables section))))
      whole
      ∙ ap (λ (m : Option Keyword). closed_at length open_ m) none

  -- So it is before the next document's first item.
  pub stopped_read : (tables : Tables S K V X) (length : ℕ) (across : X) (section : S) (taken : List (Taken V))
      (fault : Option DocFault)
      (item : Item) (items : List Item) → made_by tables across (opening section taken None) item ≡ Ok Stops
      → read_items tables length across (opening section taken None) fault (item ∷ items)
      ≡ Ok (record { groups = group section taken ∷ []; used = item.place })
  stopped_read tables length across section taken fault item items stops =
      read_on tables length across across (opening section taken None) fault item items Stops stops refl
