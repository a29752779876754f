-- What an item makes that stands in a section or is passed over.
use Rattle.std.proofs.Common.{◌≡◌, Bool, true, false, List, [], ◌∷◌, Option, Some, None, Result, Ok, Err, refl, sym, ap}
use Rattle.std.{proofs.Common.{◌∙◌, inl, inr}, specs.Prelude.{IfSome, not, ◌&&◌, ◌||◌, if◌then◌else◌}}
use Rattle.item_terms.specs.Items.{Item}
use Rattle.frame_terms.specs.declared.document.{Group.Group, Made.{Made, TheVariants.{Passes, Pushes, Opens, Stops}}}
use Rattle.frame_terms.specs.declared.{document.Taken.Taken, fault.FrameFault.FrameFault}
use Rattle.frame_terms.specs.declared.fault.{FrameReason.TheVariants.{Missing, Order}, ReadRefusal.ReadRefusal}
use Rattle.frame_terms.specs.declared.{keyword.Keyword.Keyword, row.Row.Row, section.Again.Again}
use Rattle.frame_terms.specs.Decisions.{beginning_reason, beyond_inner, first_item, made_by, made_later, unless_fault}
use Rattle.frame_terms.specs.{Decisions.unless_refused, Documents.start, Keywords.{same, word_of}, Order.first_of}
use Rattle.frame_terms.specs.Order.{following_sections, inner, is_keyword, is_strange, knows, opened_by, opener}
use Rattle.frame_terms.specs.{Order.passed_over, Refusals.refusal_at, Rows.is_many, Sections.{accept, lacking_keyword}}
use Rattle.frame_terms.specs.{Sections.{lacking_but, row_of, stands}, Standing.{as_made, begins, begins_again}}
use Rattle.frame_terms.specs.Standing.{by_keyword, by_row, elsewhere, ends, enters, goes_on, in_section, unless}
use Rattle.frame_terms.specs.Tables.{Tables}
use Rattle.frame_terms.specs.declared.section.Again.TheVariants as again
use Rattle.frame_laws.proofs.{KnownWords.{same-sym, same-through}, Steps.opening}
use Rattle.document_laws.{specs.{Passing.IsPassedIn, Clear.AreClear, Parts.Stands}, proofs.Openers.row_of-one}
use Rattle.document_laws.proofs.{Openers.row_of-same, Places.{IsAt, IsNear, ignored_begins, never_beyond}}
use Rattle.document_laws.proofs.Places.{never_beyond_again, or_front, never_beyond_unknown, no_row_begins, regarded_of}
use Rattle.document_laws.proofs.{Places.{unknown_opens, unknown_row}, Rows.{accepted, named}}

-- two keywords that are one with a third are one
pub same-both : (a b c : Keyword) → same a b ≡ true → same a c ≡ true → same b c ≡ true
same-both a b c ab ac = sym (same-through a b c ab) ∙ ac

none_new : (many : Bool) → (not many && false) ≡ false
none_new true = refl
none_new false = refl

module _ {S K V X : Type 0} (tables : Tables S K V X) (clear : AreClear tables) where
  -- a later item makes what its keyword says
  made_so : (across : X) (section : S) (around : Option (Group S V)) (first : Taken V) (taken : List (Taken V))
      (item : Item) (word : Option Keyword) → word_of item.keyword ≡ word
      → beyond_inner tables section (first ∷ taken) around item word ≡ None
      → made_by tables across (opening section (first ∷ taken) around) item
      ≡ by_keyword tables across (opening section (first ∷ taken) around) item word
  made_so across section around first taken item word known within =
      let open_ = opening section (first ∷ taken) around in
      ap (λ (w : Option Keyword). made_later tables across open_ item w) known
      ∙ ap (λ (f : Option FrameFault). unless_fault f (by_keyword tables across open_ item word)) within

  -- ---- an item that is passed over

  passes_unknown : (across : X) (section : S) (around : Option (Group S V)) (first : Taken V) (taken : List (Taken V))
      (item : Item) (word : Option Keyword) → word_of item.keyword ≡ word → IsAt tables clear section around
      → IsNear tables clear section around first item → IfSome word (λ keyword. is_strange tables section keyword ≡ false)
      → made_by tables across (opening section (first ∷ taken) around) item ≡ Ok Passes
  passes_unknown across section around first taken item None known at near is =
      made_so across section around first taken item None known
      (never_beyond_unknown tables clear section around first taken item near)
  passes_unknown across section around first taken item (Some keyword) known at near is =
      let open_ = opening section (first ∷ taken) around in
      let nowhere : knows tables keyword ≡ false = or_front (knows tables keyword) (tables.strangers section keyword) is in
      let none = unknown_row tables clear section around keyword at nowhere in
      made_so across section around first taken item (Some keyword) known
      (never_beyond tables clear section around first taken item keyword near
      (no_row_begins tables clear section keyword none))
      ∙ ap (λ (r : Option (Row K)). by_row tables across open_ item keyword r) none
      ∙ ap (λ (s : Option S). elsewhere tables across open_ item keyword s)
      (unknown_opens tables clear section around keyword at nowhere)
      ∙ ap (λ (t : Bool). if t then Err (refusal_at item.place Order) else Ok Passes) is

  pub passes : (across : X) (section : S) (around : Option (Group S V)) (first : Taken V) (taken : List (Taken V))
      (item : Item) → IsAt tables clear section around → IsNear tables clear section around first item
      → IsPassedIn tables section item
      → made_by tables across (opening section (first ∷ taken) around) item ≡ Ok Passes
  passes across section around first taken item at near (inl is) =
      passes_unknown across section around first taken item (word_of item.keyword) refl at near is
  passes across section around first taken item at near (inr is) =
      let open_ = opening section (first ∷ taken) around in
      made_so across section around first taken item (Some is.keyword) is.known
      (never_beyond tables clear section around first taken item is.keyword near
      (ignored_begins tables clear section is.keyword is.row item is.has_row is.ignored))
      ∙ ap (λ (r : Option (Row K)). by_row tables across open_ item is.keyword r) is.has_row
      ∙ ap (λ (t : Bool). if t then Ok Passes else in_section tables across open_ item is.row) is.ignored

  -- ---- an item of a row of the section that is open

  to_section : (across next : X) (section : S) (around : Option (Group S V)) (first : Taken V) (taken : List (Taken V))
      (item : Item) (one : Taken V) (is : Stands tables across section item one next)
      → beyond_inner tables section (first ∷ taken) around item (Some is.said.keyword) ≡ None
      → made_by tables across (opening section (first ∷ taken) around) item
      ≡ in_section tables across (opening section (first ∷ taken) around) item is.said.row
  to_section across next section around first taken item one is within =
      let open_ = opening section (first ∷ taken) around in
      made_so across section around first taken item (Some is.said.keyword) is.said.known within
      ∙ ap (λ (r : Option (Row K)). by_row tables across open_ item is.said.keyword r) is.said.has_row
      ∙ ap (λ (t : Bool). if t then Ok Passes else in_section tables across open_ item is.said.row) is.regarded

  -- one that is the last of its section, or is not
  by_last : (across : X) (section : S) (around : Option (Group S V)) (taken : List (Taken V)) (item : Item) (row : Row K)
      (test : Bool) → is_keyword ((tables.shape section).last) row.keyword ≡ test
      → in_section tables across (opening section taken around) item row
      ≡ (if test then unless item.place (lacking_but (tables.rows section) row.keyword taken)
      (as_made (ends around) (accept tables across row taken item))
      else goes_on tables across (opening section taken around) item row (begins_again tables section row))
  by_last across section around taken item row test is =
      ap (λ (t : Bool). if t then unless item.place (lacking_but (tables.rows section) row.keyword taken)
      (as_made (ends around) (accept tables across row taken item))
      else goes_on tables across (opening section taken around) item row (begins_again tables section row)) is

  last_is : (across next : X) (section : S) (item : Item) (one : Taken V) (is : Stands tables across section item one next)
      → is_keyword ((tables.shape section).last) is.said.row.keyword
      ≡ is_keyword ((tables.shape section).last) one.keyword
  last_is across next section item one is =
      ap (λ (k : Keyword). is_keyword ((tables.shape section).last) k)
      (sym (named tables section across item one is.said))

  -- one more, which may begin a section inside this one
  pub goes_in : (across next : X) (section : S) (around : Option (Group S V)) (first : Taken V) (taken : List (Taken V))
      (item : Item) (one : Taken V) (is : Stands tables across section item one next)
      → beyond_inner tables section (first ∷ taken) around item (Some is.said.keyword) ≡ None
      → is_keyword ((tables.shape section).last) one.keyword ≡ false → same (opener tables section) one.keyword ≡ false
      → (not (is_many is.said.row.count) && stands is.said.row.keyword (first ∷ taken)) ≡ false
      → made_by tables across (opening section (first ∷ taken) around) item
      ≡ Ok (enters (inner tables section one.keyword) one)
  goes_in across next section around first taken item one is within not_last not_first new =
      let open_ = opening section (first ∷ taken) around in
      let row = is.said.row in
      let one_row = sym (named tables section across item one is.said) in
      to_section across next section around first taken item one is within
      ∙ by_last across section around (first ∷ taken) item row false
      (last_is across next section item one is ∙ not_last)
      ∙ ap (λ (t : Bool). goes_on tables across open_ item row
      (if t then (tables.shape section).again else again.Nothing))
      (ap (λ (k : Keyword). same (opener tables section) k) one_row ∙ not_first)
      ∙ ap (λ (k : Keyword). as_made (enters (inner tables section k)) (accept tables across row (first ∷ taken) item))
      one_row
      ∙ ap (λ (r : Result (Taken V) ReadRefusal). as_made (enters (inner tables section one.keyword)) r)
      (accepted tables section across (first ∷ taken) item one is.said new)

  -- its last one
  pub ends_it : (across next : X) (section : S) (around : Option (Group S V)) (first : Taken V) (taken : List (Taken V))
      (item : Item) (one : Taken V) (is : Stands tables across section item one next)
      → beyond_inner tables section (first ∷ taken) around item (Some is.said.keyword) ≡ None
      → is_keyword ((tables.shape section).last) one.keyword ≡ true
      → (not (is_many is.said.row.count) && stands is.said.row.keyword (first ∷ taken)) ≡ false
      → lacking_but (tables.rows section) one.keyword (first ∷ taken) ≡ None
      → made_by tables across (opening section (first ∷ taken) around) item ≡ Ok (ends around one)
  ends_it across next section around first taken item one is within last new whole =
      let row = is.said.row in
      to_section across next section around first taken item one is within
      ∙ by_last across section around (first ∷ taken) item row true (last_is across next section item one is ∙ last)
      ∙ ap (λ (m : Option Keyword).
      unless item.place m (as_made (ends around) (accept tables across row (first ∷ taken) item)))
      (ap (λ (k : Keyword). lacking_but (tables.rows section) k (first ∷ taken))
      (sym (named tables section across item one is.said)) ∙ whole)
      ∙ ap (λ (r : Result (Taken V) ReadRefusal). as_made (ends around) r)
      (accepted tables section across (first ∷ taken) item one is.said new)

  -- ---- an opener

  -- the keyword of an opener is that of its section
  pub word_opens : (across : X) (next : X) (section : S) (item : Item) (one : Taken V)
      (is : Stands tables across section item one next) → same (opener tables section) one.keyword ≡ true
      → same (opener tables section) is.said.keyword ≡ true
  word_opens across next section item one is opens =
      let k = is.said.row.keyword in
      let row_opens : same (opener tables section) k ≡ true =
      ap (λ (w : Keyword). same (opener tables section) w) (sym (named tables section across item one is.said)) ∙ opens in
      same-both k (opener tables section) is.said.keyword (same-sym k (opener tables section) ∙ row_opens)
      (row_of-same (tables.rows section) is.said.keyword is.said.row is.said.has_row)

  -- it is taken as the first of its section
  taken_first : (across next : X) (section : S) (item : Item) (one : Taken V)
      (is : Stands tables across section item one next) → accept tables across is.said.row [] item ≡ Ok one
  taken_first across next section item one is =
      accepted tables section across [] item one is.said (none_new (is_many is.said.row.count))

  -- the first of a document
  pub starts : (across next : X) (item : Item) (one : Taken V) (is : Stands tables across tables.first item one next)
      → same (opener tables tables.first) one.keyword ≡ true
      → made_by tables across (start tables) item ≡ Ok (Pushes one)
  starts across next item one is opens =
      let k = is.said.keyword in
      ap (λ (w : Option Keyword).
      unless_refused item.place (beginning_reason tables w) (first_item tables across item w)) is.said.known
      ∙ ap (λ (t : Bool).
      unless_refused item.place (if t then None else Some (Missing (opener tables tables.first)))
      (first_item tables across item (Some k)))
      (same-sym k (opener tables tables.first) ∙ word_opens across next tables.first item one is opens)
      ∙ ap (λ (r : Option (Row K)). begins tables across Pushes item r) is.said.has_row
      ∙ ap (λ (r : Result (Taken V) ReadRefusal). as_made Pushes r) (taken_first across next tables.first item one is)

  -- that of a later section
  pub begins_later : (across next : X) (section other : S) (first : Taken V) (taken : List (Taken V)) (item : Item)
      (one : Taken V) (is : Stands tables across other item one next)
      → row_of (tables.rows section) is.said.keyword ≡ None
      → opened_by tables is.said.keyword (following_sections tables section) ≡ Some other
      → passed_over tables is.said.keyword (following_sections tables section) ≡ None
      → lacking_keyword (tables.rows section) (first ∷ taken) ≡ None
      → made_by tables across (opening section (first ∷ taken) None) item ≡ Ok (Opens other one)
  begins_later across next section other first taken item one is not_here opened passes_none whole =
      let open_ = opening section (first ∷ taken) None in
      let k = is.said.keyword in
      let begun = begins tables across (Opens other) item (row_of (tables.rows other) k) in
      made_so across section None first taken item (Some k) is.said.known
      (never_beyond tables clear section None first taken item k tt (no_row_begins tables clear section k not_here))
      ∙ ap (λ (r : Option (Row K)). by_row tables across open_ item k r) not_here
      ∙ ap (λ (s : Option S). elsewhere tables across open_ item k s) opened
      ∙ ap (λ (m : Option Keyword). unless item.place (first_of m (passed_over tables k (following_sections tables section))) begun)
      whole
      ∙ ap (λ (m : Option Keyword). unless item.place m begun) passes_none
      ∙ ap (λ (r : Option (Row K)). begins tables across (Opens other) item r) is.said.has_row
      ∙ ap (λ (r : Result (Taken V) ReadRefusal). as_made (Opens other) r) (taken_first across next other item one is)

  -- the opener that stands first stands
  stands_first : (section : S) (first : Taken V) (taken : List (Taken V)) (keyword : Keyword)
      → same (opener tables section) first.keyword ≡ true → same (opener tables section) keyword ≡ true
      → stands keyword (first ∷ taken) ≡ true
  stands_first section first taken keyword opens is =
      ap (λ (t : Bool). t || stands keyword taken) (same-both (opener tables section) first.keyword keyword opens is)

  -- one more of the section that is open, which begins it once more
  pub begins_more : (across next : X) (section : S) (first : Taken V) (taken : List (Taken V)) (item : Item)
      (one : Taken V) (is : Stands tables across section item one next)
      → same (opener tables section) first.keyword ≡ true → same (opener tables section) one.keyword ≡ true
      → (tables.shape section).last ≡ None → (tables.shape section).again ≡ again.Section
      → lacking_keyword (tables.rows section) (first ∷ taken) ≡ None
      → made_by tables across (opening section (first ∷ taken) None) item ≡ Ok (Opens section one)
  begins_more across next section first taken item one is opens opens_again no_last repeats_ whole =
      let open_ = opening section (first ∷ taken) None in
      let row = is.said.row in
      let more : Result (Made S V) ReadRefusal = as_made (Opens section) (accept tables across row [] item) in
      to_section across next section None first taken item one is
      (never_beyond_again tables clear section (first ∷ taken) item is.said.keyword
      (stands_first section first taken is.said.keyword opens (word_opens across next section item one is opens_again)))
      ∙ by_last across section None (first ∷ taken) item row false
      (ap (λ (l : Option Keyword). is_keyword l row.keyword) no_last)
      ∙ ap (λ (t : Bool). goes_on tables across open_ item row
      (if t then (tables.shape section).again else again.Nothing))
      (ap (λ (k : Keyword). same (opener tables section) k) (sym (named tables section across item one is.said))
      ∙ opens_again)
      ∙ ap (λ (a : Again). goes_on tables across open_ item row a) repeats_
      ∙ ap (λ (m : Option Keyword). unless item.place m more) whole
      ∙ ap (λ (r : Result (Taken V) ReadRefusal). as_made (Opens section) r) (taken_first across next section item one is)

  -- that of the next document
  pub stops : (across : X) (section : S) (first : Taken V) (taken : List (Taken V)) (item : Item) (keyword : Keyword)
      → word_of item.keyword ≡ Some keyword → same (opener tables section) first.keyword ≡ true
      → same (opener tables section) keyword ≡ true → (tables.shape section).last ≡ None
      → (tables.shape section).again ≡ again.Document → lacking_keyword (tables.rows section) (first ∷ taken) ≡ None
      → made_by tables across (opening section (first ∷ taken) None) item ≡ Ok Stops
  stops across section first taken item keyword known opens opens_next no_last next whole =
      let open_ = opening section (first ∷ taken) None in
      let once = clear.sound.opener_once section in
      let row = once.row in
      let has_row : row_of (tables.rows section) keyword ≡ Some row =
      sym (row_of-one (tables.rows section) (opener tables section) keyword opens_next) ∙ once.has_row in
      let row_opens : same (opener tables section) row.keyword ≡ true =
      same-sym (opener tables section) row.keyword
      ∙ row_of-same (tables.rows section) (opener tables section) row once.has_row in
      made_so across section None first taken item (Some keyword) known
      (never_beyond_again tables clear section (first ∷ taken) item keyword
      (stands_first section first taken keyword opens opens_next))
      ∙ ap (λ (r : Option (Row K)). by_row tables across open_ item keyword r) has_row
      ∙ ap (λ (t : Bool). if t then Ok Passes else in_section tables across open_ item row)
      (regarded_of tables clear section row item once.has_row)
      ∙ by_last across section None (first ∷ taken) item row false
      (ap (λ (l : Option Keyword). is_keyword l row.keyword) no_last)
      ∙ ap (λ (t : Bool). goes_on tables across open_ item row
      (if t then (tables.shape section).again else again.Nothing)) row_opens
      ∙ ap (λ (a : Again). goes_on tables across open_ item row a) next
      ∙ ap (λ (m : Option Keyword). unless item.place m stop) whole
    where
      stop : Result (Made S V) ReadRefusal
      stop = Ok Stops
