-- The first fault of a document stands within its bytes, whatever its tables.
use Rattle.std.proofs.Common.{◌≡◌, ℕ, ◌+◌, ◌-◌, ◌≤◌, Bool, true, false, List, [], ◌∷◌, length, Option, Some, None}
use Rattle.std.{proofs.{Common.{Result, Ok, Err, refl, sym, subst, arith}, lemmas.Bool.ltb-true}, specs.Prelude.nat_lt}
use Rattle.std.specs.Prelude.{not, ◌&&◌, IfSome, if◌then◌else◌}
use Rattle.item_terms.specs.{Items.{Item, items_of}, declared.fault.DocFault.DocFault}
use Rattle.dirdoc_grammar.{specs.InPlace.{EachInPlace, InPlace}, proofs.Places.stand_in_place}
use Rattle.frame_terms.specs.Decisions.{beginning_reason, beyond, beyond_inner, beyond_inside, first_item, first_place}
use Rattle.frame_terms.specs.Decisions.{made_after, made_by, made_first, made_later, section_inside, unless_fault}
use Rattle.frame_terms.specs.{Decisions.unless_refused, Documents.{Document, after_made, after_noted, at_end}}
use Rattle.frame_terms.specs.Documents.{closed_at, go_on, group, missing_at_end, note_of_made, onto, read_items, start}
use Rattle.frame_terms.specs.{Keywords.word_of, Order.{first_of, following_sections, inner, is_keyword, is_strange}}
use Rattle.frame_terms.specs.{Order.{opened_by, passed_over}, Refusals.refusal_at, Rows.{is_many, limit_number}}
use Rattle.frame_terms.specs.Sections.{accept, lacking_keyword, lacking_but, row_of, stands, taken_as, taken_of}
use Rattle.frame_terms.specs.Standing.{as_made, begins, begins_again, by_keyword, by_row, elsewhere, ends, enters}
use Rattle.frame_terms.specs.{Standing.{goes_on, in_section, unless}, Tables.Tables, declared.document.Group.Group}
use Rattle.frame_terms.specs.declared.document.Made.{Made, TheVariants.{Passes, Pushes, Opens, Enters, Leaves, Ends}}
use Rattle.frame_terms.specs.declared.document.{Made.TheVariants.Stops, Open.Open, Taken.Taken}
use Rattle.frame_terms.specs.declared.fault.{FrameFault.FrameFault, FrameReason.{FrameReason, TheVariants.Order}}
use Rattle.frame_terms.specs.declared.fault.{FrameReason.TheVariants.{TooMany, Twice}, ReadRefusal.ReadRefusal}
use Rattle.frame_terms.specs.declared.{fault.ReadRefusal.TheVariants.{Frame, Memory}, keyword.Keyword.Keyword}
use Rattle.frame_terms.specs.declared.{row.{Limit.Limit, Row.Row}, section.Again.Again}
use Rattle.frame_terms.specs.declared.section.Again.TheVariants as again
use Rattle.fault_places.specs.Within.{FaultIn, FaultsStandIn, FirstFaultsStandWithin}
use Rattle.fault_places.proofs.LinePlaces.{first_fault_within}

-- a refusal tells a place within so many bytes, if it tells one
abbrev RefusedIn : ℕ → ReadRefusal → Type 0
RefusedIn n (Frame fault) = fault.place ≤ n
RefusedIn n Memory = Unit {0}

-- and what is read, if it is refused
abbrev ReadIn : {A : Type 0} → ℕ → Result A ReadRefusal → Type 0
ReadIn n (Ok value) = Unit {0}
ReadIn n (Err refusal) = RefusedIn n refusal

-- ---- what an item makes

module _ {S K V X : Type 0} (tables : Tables S K V X) (stand : FaultsStandIn tables) (bytes : List ℕ) (item : Item)
    (there : InPlace bytes item) (across : X) where
  abbrev n : ℕ
  n = length bytes

  within : item.after ≤ n
  within = there.within

  place_in : item.place ≤ n
  place_in = omega (arith, there.in_order.some_bytes, within)

  -- what an item makes, and why it may not stand behind those before it
  abbrev MadeIn : Result (Made S V) ReadRefusal → Type 0
  MadeIn (Ok made) = FaultIn n (note_of_made tables made across)
  MadeIn (Err refusal) = RefusedIn n refusal

  -- it is remembered as what it says
  abbrev IsNoted : (Taken V → Made S V) → Type 0
  IsNoted make = (one : Taken V) → note_of_made tables (make one) across ≡ tables.note across one

  said_in : (make : Taken V → Made S V) → IsNoted make → (row : Row K) (said : Result V FrameFault)
      → tables.value_of across row.kind item ≡ said → MadeIn (as_made make (taken_as row.keyword item said))
  said_in make same row (Err fault) is = subst (FaultIn n) is (stand.said bytes across row.kind item there)
  said_in make same row (Ok value) is =
      subst (FaultIn n) (sym (same (taken_of row.keyword item value)))
      (stand.noted bytes across row.kind row.keyword item value there is)

  accept_in : (make : Taken V → Made S V) → IsNoted make → (row : Row K) (taken : List (Taken V))
      → MadeIn (as_made make (accept tables across row taken item))
  accept_in make same row taken = by (not (is_many row.count) && stands row.keyword taken)
    where
      by : (t : Bool) → MadeIn (as_made make (if t then Err (refusal_at item.place (Twice row.keyword))
          else taken_as row.keyword item (tables.value_of across row.kind item)))
      by true = place_in
      by false = said_in make same row (tables.value_of across row.kind item) refl

  unless_in : (lacks : Option Keyword) (made : Result (Made S V) ReadRefusal) → MadeIn made
      → MadeIn (unless item.place lacks made)
  unless_in None made is = is
  unless_in (Some keyword) made is = place_in

  begins_in : (make : Taken V → Made S V) → IsNoted make → (row : Option (Row K))
      → MadeIn (begins tables across make item row)
  begins_in make same None = tt
  begins_in make same (Some row) = accept_in make same row []

  ends_noted : (around : Option (Group S V)) → IsNoted (ends around)
  ends_noted None one = refl
  ends_noted (Some group) one = refl

  enters_noted : (inside : Option S) → IsNoted (enters inside)
  enters_noted None one = refl
  enters_noted (Some section) one = refl

  goes_on_in : (open_ : Open S V) (row : Row K) (a : Again) → MadeIn (goes_on tables across open_ item row a)
  goes_on_in open_ row again.Nothing =
      let inside = inner tables open_.section row.keyword in
      accept_in (enters inside) (enters_noted inside) row open_.taken
  goes_on_in open_ row again.Section =
      unless_in (lacking_keyword (tables.rows open_.section) open_.taken)
      (as_made (Opens open_.section) (accept tables across row [] item))
      (accept_in (Opens open_.section) (λ one. refl) row [])
  goes_on_in open_ row again.Document = unless_in (lacking_keyword (tables.rows open_.section) open_.taken) (Ok Stops) tt

  in_section_in : (open_ : Open S V) (row : Row K) → MadeIn (in_section tables across open_ item row)
  in_section_in open_ row = by (is_keyword ((tables.shape open_.section).last) row.keyword)
    where
      last : Result (Made S V) ReadRefusal
      last = as_made (ends open_.around) (accept tables across row open_.taken item)

      by : (t : Bool) → MadeIn (if t then unless item.place
          (lacking_but (tables.rows open_.section) row.keyword open_.taken) last
          else goes_on tables across open_ item row (begins_again tables open_.section row))
      by true =
          unless_in (lacking_but (tables.rows open_.section) row.keyword open_.taken) last
          (accept_in (ends open_.around) (ends_noted open_.around) row open_.taken)
      by false = goes_on_in open_ row (begins_again tables open_.section row)

  elsewhere_in : (open_ : Open S V) (keyword : Keyword) (other : Option S)
      → MadeIn (elsewhere tables across open_ item keyword other)
  elsewhere_in open_ keyword None = by (is_strange tables open_.section keyword)
    where
      by : (t : Bool) → MadeIn (if t then Err (refusal_at item.place Order) else Ok Passes)
      by true = place_in
      by false = tt
  elsewhere_in open_ keyword (Some other) =
      let row = row_of (tables.rows other) keyword in
      unless_in
      (first_of (lacking_keyword (tables.rows open_.section) open_.taken)
      (passed_over tables keyword (following_sections tables open_.section)))
      (begins tables across (Opens other) item row) (begins_in (Opens other) (λ one. refl) row)

  by_row_in : (open_ : Open S V) (keyword : Keyword) (row : Option (Row K))
      → MadeIn (by_row tables across open_ item keyword row)
  by_row_in open_ keyword None =
      elsewhere_in open_ keyword (opened_by tables keyword (following_sections tables open_.section))
  by_row_in open_ keyword (Some row) = by (tables.ignores row.kind item)
    where
      by : (t : Bool) → MadeIn (if t then Ok Passes else in_section tables across open_ item row)
      by true = tt
      by false = in_section_in open_ row

  by_keyword_in : (open_ : Open S V) (word : Option Keyword) → MadeIn (by_keyword tables across open_ item word)
  by_keyword_in open_ None = tt
  by_keyword_in open_ (Some keyword) = by_row_in open_ keyword (row_of (tables.rows open_.section) keyword)

  first_in : (word : Option Keyword) → MadeIn (made_first tables across item word)
  first_in word = by (beginning_reason tables word) (first word)
    where
      first : (word : Option Keyword) → MadeIn (first_item tables across item word)
      first None = tt
      first (Some keyword) = begins_in Pushes (λ one. refl) (row_of (tables.rows tables.first) keyword)

      by : (reason : Option FrameReason) → MadeIn (first_item tables across item word)
          → MadeIn (unless_refused item.place reason (first_item tables across item word))
      by None is = is
      by (Some reason) is = place_in

  -- ---- limits of bytes

  abbrev FaultIfIn : Option FrameFault → Type 0
  FaultIfIn None = Unit {0}
  FaultIfIn (Some fault) = fault.place ≤ n

  beyond_in : (from : ℕ) (limit : Option Limit) → FaultIfIn (beyond from limit item)
  beyond_in from None = tt
  beyond_in from (Some limit) = by (nat_lt (limit_number limit) (item.after - from)) refl
    where
      by : (t : Bool) → nat_lt (limit_number limit) (item.after - from) ≡ t
          → FaultIfIn (if t then Some (record { place = from + limit_number limit; reason = TooMany limit }) else None)
      by true e = omega (arith, ltb-true (limit_number limit) (item.after - from) e, within)
      by false e = tt

  inside_in : (inside : Option S) → FaultIfIn (beyond_inside tables item inside)
  inside_in None = tt
  inside_in (Some section) = beyond_in item.place ((tables.shape section).limit)

  inner_in : (section : S) (taken : List (Taken V)) (around : Option (Group S V)) (word : Option Keyword)
      → FaultIfIn (beyond_inner tables section taken around item word)
  inner_in section taken None word = inside_in (section_inside tables section taken word)
  inner_in section taken (Some group) word = beyond_in (first_place taken) ((tables.shape section).limit)

  later_in : (open_ : Open S V) (word : Option Keyword) → MadeIn (made_later tables across open_ item word)
  later_in open_ word =
      by (beyond_inner tables open_.section open_.taken open_.around item word)
      (inner_in open_.section open_.taken open_.around word)
    where
      by : (fault : Option FrameFault) → FaultIfIn fault
          → MadeIn (unless_fault fault (by_keyword tables across open_ item word))
      by None is = by_keyword_in open_ word
      by (Some fault) is = is

  made_in : (open_ : Open S V) → MadeIn (made_by tables across open_ item)
  made_in open_ = by open_.taken
    where
      by : (taken : List (Taken V)) → MadeIn (made_after tables across open_ item (word_of item.keyword) taken)
      by [] = first_in (word_of item.keyword)
      by (one ∷ taken) = later_in open_ (word_of item.keyword)

-- ---- item by item

module _ {S K V X : Type 0} (tables : Tables S K V X) (stand : FaultsStandIn tables) (bytes : List ℕ) where
  onto_in : (first : Group S V) (read : Result (Document S V) ReadRefusal) → ReadIn (length bytes) read
      → ReadIn (length bytes) (onto first read)
  onto_in first (Ok document) is = tt
  onto_in first (Err refusal) is = is

  go_on_in : (made : Made S V) (open_ : Open S V) (item : Item) (more : Open S V → Result (Document S V) ReadRefusal)
      → ((next : Open S V) → ReadIn (length bytes) (more next)) → ReadIn (length bytes) (go_on made open_ item more)
  go_on_in Passes open_ item more each = each open_
  go_on_in (Pushes one) open_ item more each = each _
  go_on_in (Opens next one) open_ item more each = onto_in _ _ (each _)
  go_on_in (Enters inside one) open_ item more each = each _
  go_on_in (Leaves one) open_ item more each = onto_in _ _ (each _)
  go_on_in (Ends one) open_ item more each = tt
  go_on_in Stops open_ item more each = tt

  noted_in : (noted : Result X FrameFault) → FaultIn (length bytes) noted → (made : Made S V) (open_ : Open S V)
      (item : Item) (more : X → Open S V → Result (Document S V) ReadRefusal)
      → ((remembered : X) (next : Open S V) → ReadIn (length bytes) (more remembered next))
      → ReadIn (length bytes) (after_noted noted made open_ item more)
  noted_in (Err fault) is made open_ item more each = is
  noted_in (Ok remembered) is made open_ item more each =
      go_on_in made open_ item (λ next. more remembered next) (each remembered)

  step_in : (across : X) (open_ : Open S V) (item : Item) (there : InPlace bytes item)
      (more : X → Open S V → Result (Document S V) ReadRefusal)
      → ((remembered : X) (next : Open S V) → ReadIn (length bytes) (more remembered next))
      → (made : Result (Made S V) ReadRefusal) → MadeIn tables stand bytes item there across made
      → ReadIn (length bytes) (after_made tables made across open_ item more)
  step_in across open_ item there more each (Err refusal) is = is
  step_in across open_ item there more each (Ok made) is =
      noted_in (note_of_made tables made across) is made open_ item more each

  closed_in : (open_ : Open S V) (lacks : Option Keyword) → ReadIn (length bytes) (closed_at (length bytes) open_ lacks)
  closed_in open_ None = tt
  closed_in open_ (Some keyword) = omega arith

  end_in : (open_ : Open S V) (fault : Option DocFault) → IfSome fault (λ f. f.place ≤ length bytes)
      → ReadIn (length bytes) (at_end tables (length bytes) open_ fault)
  end_in open_ (Some fault) is = is
  end_in open_ None is = closed_in open_ (missing_at_end tables open_.section open_.taken)

  items_in : (items : List Item) (fault : Option DocFault) → IfSome fault (λ f. f.place ≤ length bytes)
      → EachInPlace bytes items → (across : X) (open_ : Open S V)
      → ReadIn (length bytes) (read_items tables (length bytes) across open_ fault items)
  unfolding read_items
  items_in [] fault is each across open_ = end_in open_ fault is
  items_in (item ∷ items) fault is each across open_ =
      step_in across open_ item each.0
      (λ remembered next. read_items tables (length bytes) remembered next fault items)
      (λ remembered next. items_in items fault is each.1 remembered next)
      (made_by tables across open_ item) (made_in tables stand bytes item each.0 across open_)

pub first_faults : {S K V X : Type 0} (tables : Tables S K V X) → FirstFaultsStandWithin tables
first_faults tables stand limit bytes fault is =
    let contents = items_of limit bytes in
    subst (ReadIn (length bytes)) is
    (items_in tables stand bytes contents.items contents.fault (first_fault_within limit bytes)
    (stand_in_place 0 limit bytes) tables.start (start tables))
