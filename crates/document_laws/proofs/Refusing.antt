-- What a document is whose bytes have no fault is refused as no line or object is, where its tables refuse no item so.
use Rattle.std.proofs.Common.{◌≡◌, ℕ, ◌+◌, ◌-◌, Bool, true, false, List, [], ◌∷◌, ◌++◌, Option, Some, None, Result, Ok}
use Rattle.std.{proofs.Common.{Err, refl}, specs.Prelude.{not, ◌&&◌, nat_lt, IfSome, if◌then◌else◌}}
use Rattle.item_terms.specs.Items.{Item}
use Rattle.frame_terms.specs.declared.document.{Group.Group, Made.{Made, TheVariants.{Passes, Pushes, Opens, Enters}}}
use Rattle.frame_terms.specs.declared.document.{Made.TheVariants.{Leaves, Ends, Stops}, Open.Open, Taken.Taken}
use Rattle.frame_terms.specs.declared.fault.{FrameFault.FrameFault, FrameReason.TheVariants.{Missing, TooMany}}
use Rattle.frame_terms.specs.declared.fault.ReadRefusal.{ReadRefusal, TheVariants.{Frame, Memory}}
use Rattle.frame_terms.specs.declared.{keyword.Keyword.Keyword, row.{Limit.Limit, Row.Row}, section.Again.Again}
use Rattle.frame_terms.specs.Decisions.{beyond, beyond_inner, beyond_inside, first_item, first_place, made_after}
use Rattle.frame_terms.specs.{Decisions.{made_by, section_inside, unless_fault, unless_refused}, Documents.Document}
use Rattle.frame_terms.specs.Documents.{after_made, after_noted, closed_at, finish, go_on, group, missing_at_end}
use Rattle.frame_terms.specs.Documents.{note_of_made, onto, read_items, with_inner, with_next, with_one, without_inner}
use Rattle.frame_terms.specs.{Keywords.word_of, Order.{begins_document, first_of, following_sections, inner}}
use Rattle.frame_terms.specs.{Order.{is_keyword, is_strange, opened_by, opener, passed_over}, Rows.is_many}
use Rattle.frame_terms.specs.{Rows.limit_number, Sections.{accept, lacking_keyword, lacking_but, row_of, stands}}
use Rattle.frame_terms.specs.{Sections.taken_as, Standing.{as_made, begins, begins_again, by_keyword, by_row}}
use Rattle.frame_terms.specs.{Standing.{elsewhere, ends, enters, goes_on, in_section, unless}, Tables.Tables}
use Rattle.frame_terms.specs.declared.section.Again.TheVariants as again
use Rattle.document_laws.specs.Known.{HasNoDoc, IsNoDoc, is_doc}

-- an answer that is no fault of a line or an object
abbrev pub IsClear : {Y : Type 0} → Result Y ReadRefusal → Type 0
IsClear (Ok _) = Unit {0}
IsClear (Err Memory) = Unit {0}
IsClear (Err (Frame fault)) = is_doc fault.reason ≡ false

of_if : {Y : Type 0} (test : Bool) (one other : Result Y ReadRefusal) → IsClear one → IsClear other
    → IsClear (if test then one else other)
of_if true one other h k = h
of_if false one other h k = k

module _ {S V : Type 0} where
  of_unless : (place : ℕ) (missing : Option Keyword) (other : Result (Made S V) ReadRefusal) → IsClear other
      → IsClear (unless place missing other)
  of_unless place None other h = h
  of_unless place (Some keyword) other h = refl

  of_as_made : (make : Taken V → Made S V) (read : Result (Taken V) ReadRefusal) → IsClear read
      → IsClear (as_made make read)
  of_as_made make (Ok taken) h = tt
  of_as_made make (Err Memory) h = tt
  of_as_made make (Err (Frame fault)) h = h

of_taken : {V : Type 0} (keyword : Keyword) (item : Item) (read : Result V FrameFault) → IsNoDoc read
    → IsClear (taken_as keyword item read)
of_taken keyword item (Ok value) h = tt
of_taken keyword item (Err fault) h = h

module _ {S K V X : Type 0} (tables : Tables S K V X) (sound : HasNoDoc tables) where
  of_accept : (across : X) (row : Row K) (taken : List (Taken V)) (item : Item)
      → IsClear (accept tables across row taken item)
  of_accept across row taken item =
      of_if (not (is_many row.count) && stands row.keyword taken) _ _ refl
      (of_taken row.keyword item (tables.value_of across row.kind item) (sound.values across row.kind item))

  of_goes_on : (across : X) (open_ : Open S V) (item : Item) (row : Row K) (begun : Again)
      → IsClear (goes_on tables across open_ item row begun)
  of_goes_on across open_ item row again.Nothing =
      of_as_made (enters (inner tables open_.section row.keyword)) _ (of_accept across row open_.taken item)
  of_goes_on across open_ item row again.Section =
      of_unless item.place (lacking_keyword (tables.rows open_.section) open_.taken) _
      (of_as_made (Opens open_.section) _ (of_accept across row [] item))
  of_goes_on across open_ item row again.Document =
      of_unless item.place (lacking_keyword (tables.rows open_.section) open_.taken) (Ok Stops) tt

  of_section : (across : X) (open_ : Open S V) (item : Item) (row : Row K)
      → IsClear (in_section tables across open_ item row)
  of_section across open_ item row =
      of_if (is_keyword ((tables.shape open_.section).last) row.keyword) _ _
      (of_unless item.place (lacking_but (tables.rows open_.section) row.keyword open_.taken) _
      (of_as_made (ends open_.around) _ (of_accept across row open_.taken item)))
      (of_goes_on across open_ item row (begins_again tables open_.section row))

  of_begins : (across : X) (make : Taken V → Made S V) (item : Item) (row : Option (Row K))
      → IsClear (begins tables across make item row)
  of_begins across make item None = tt
  of_begins across make item (Some row) = of_as_made make _ (of_accept across row [] item)

  of_elsewhere : (across : X) (open_ : Open S V) (item : Item) (keyword : Keyword) (other : Option S)
      → IsClear (elsewhere tables across open_ item keyword other)
  of_elsewhere across open_ item keyword None = of_if (is_strange tables open_.section keyword) _ _ refl tt
  of_elsewhere across open_ item keyword (Some other) =
      of_unless item.place
      (first_of (lacking_keyword (tables.rows open_.section) open_.taken)
      (passed_over tables keyword (following_sections tables open_.section))) _
      (of_begins across (Opens other) item (row_of (tables.rows other) keyword))

  of_row : (across : X) (open_ : Open S V) (item : Item) (keyword : Keyword) (row : Option (Row K))
      → IsClear (by_row tables across open_ item keyword row)
  of_row across open_ item keyword (Some row) =
      of_if (tables.ignores row.kind item) _ _ tt (of_section across open_ item row)
  of_row across open_ item keyword None =
      of_elsewhere across open_ item keyword (opened_by tables keyword (following_sections tables open_.section))

  of_keyword : (across : X) (open_ : Open S V) (item : Item) (word : Option Keyword)
      → IsClear (by_keyword tables across open_ item word)
  of_keyword across open_ item None = tt
  of_keyword across open_ item (Some keyword) =
      of_row across open_ item keyword (row_of (tables.rows open_.section) keyword)

  -- the limit of a section inside another
  of_fault : (fault : Option FrameFault) (other : Result (Made S V) ReadRefusal)
      → IfSome fault (λ one. is_doc one.reason ≡ false)
      → IsClear other → IsClear (unless_fault fault other)
  of_fault None other is h = h
  of_fault (Some fault) other is h = is

  of_far : (far : Bool) (place : ℕ) (limit : Limit)
      → IfSome (if far then Some (record { place = place; reason = TooMany limit }) else None)
      (λ (one : FrameFault). is_doc one.reason ≡ false)
  of_far true place limit = refl
  of_far false place limit = tt

  of_beyond : (start : ℕ) (limit : Option Limit) (item : Item)
      → IfSome (beyond start limit item) (λ one. is_doc one.reason ≡ false)
  of_beyond start None item = tt
  of_beyond start (Some limit) item =
      of_far (nat_lt (limit_number limit) (item.after - start)) (start + limit_number limit) limit

  of_inside : (item : Item) (begun : Option S) → IfSome (beyond_inside tables item begun)
      (λ one. is_doc one.reason ≡ false)
  of_inside item None = tt
  of_inside item (Some section) = of_beyond item.place ((tables.shape section).limit) item

  of_inner : (section : S) (taken : List (Taken V)) (around : Option (Group S V)) (item : Item) (word : Option Keyword)
      → IfSome (beyond_inner tables section taken around item word) (λ one. is_doc one.reason ≡ false)
  of_inner section taken None item word = of_inside item (section_inside tables section taken word)
  of_inner section taken (Some around) item word = of_beyond (first_place taken) ((tables.shape section).limit) item

  -- an item
  of_reason : (place : ℕ) (begins_one : Bool) (other : Result (Made S V) ReadRefusal) → IsClear other
      → IsClear (unless_refused place (if begins_one then None else Some (Missing (opener tables tables.first))) other)
  of_reason place true other h = h
  of_reason place false other h = refl

  of_first : (across : X) (item : Item) (word : Option Keyword) → IsClear (first_item tables across item word)
  of_first across item None = tt
  of_first across item (Some keyword) = of_begins across Pushes item (row_of (tables.rows tables.first) keyword)

  of_after : (across : X) (open_ : Open S V) (item : Item) (word : Option Keyword) (taken : List (Taken V))
      → IsClear (made_after tables across open_ item word taken)
  of_after across open_ item word [] =
      of_reason item.place (begins_document tables word) (first_item tables across item word)
      (of_first across item word)
  of_after across open_ item word (one ∷ taken) =
      of_fault (beyond_inner tables open_.section open_.taken open_.around item word) _
      (of_inner open_.section open_.taken open_.around item word) (of_keyword across open_ item word)

  of_made : (across : X) (open_ : Open S V) (item : Item) → IsClear (made_by tables across open_ item)
  of_made across open_ item = of_after across open_ item (word_of item.keyword) open_.taken

  -- ---- the document

  of_missing : (length : ℕ) (open_ : Open S V) (missing : Option Keyword) → IsClear (closed_at length open_ missing)
  of_missing length open_ None = tt
  of_missing length open_ (Some keyword) = refl

  -- where the input ends, and no fault stands there
  pub of_nothing : (length : ℕ) (across : X) (open_ : Open S V)
      → IsClear (read_items tables length across open_ None [])
  unfolding read_items
  of_nothing length across open_ = of_missing length open_ (missing_at_end tables open_.section open_.taken)

  of_onto : (one : Group S V) (read : Result (Document S V) ReadRefusal) → IsClear read → IsClear (onto one read)
  of_onto one (Ok document) h = tt
  of_onto one (Err Memory) h = tt
  of_onto one (Err (Frame fault)) h = h

  of_go_on : (made : Made S V) (open_ : Open S V) (item : Item) (more : Open S V → Result (Document S V) ReadRefusal)
      → ((next : Open S V) → IsClear (more next)) → IsClear (go_on made open_ item more)
  of_go_on Passes open_ item more h = h open_
  of_go_on (Pushes one) open_ item more h = h (with_one one open_)
  of_go_on (Opens next one) open_ item more h =
      of_onto (group open_.section open_.taken) (more (with_next next one open_)) (h (with_next next one open_))
  of_go_on (Enters inside one) open_ item more h = h (with_inner inside one open_)
  of_go_on (Leaves one) open_ item more h =
      of_onto (group open_.section (open_.taken ++ one ∷ [])) (more (without_inner open_.around open_))
      (h (without_inner open_.around open_))
  of_go_on (Ends one) open_ item more h = tt
  of_go_on Stops open_ item more h = tt

  of_note : (made : Made S V) (across : X) → IsNoDoc (note_of_made tables made across)
  of_note Passes across = tt
  of_note (Pushes one) across = sound.notes across one
  of_note (Opens next one) across = sound.notes across one
  of_note (Enters inside one) across = sound.notes across one
  of_note (Leaves one) across = sound.notes across one
  of_note (Ends one) across = sound.notes across one
  of_note Stops across = tt

  of_noted : (noted : Result X FrameFault) (made : Made S V) (open_ : Open S V) (item : Item)
      (more : X → Open S V → Result (Document S V) ReadRefusal) → IsNoDoc noted
      → ((across : X) (next : Open S V) → IsClear (more across next)) → IsClear (after_noted noted made open_ item more)
  of_noted (Err fault) made open_ item more is h = is
  of_noted (Ok across) made open_ item more is h = of_go_on made open_ item (λ next. more across next) (h across)

  of_after_made : (made : Result (Made S V) ReadRefusal) (across : X) (open_ : Open S V) (item : Item)
      (more : X → Open S V → Result (Document S V) ReadRefusal) → IsClear made
      → ((remembered : X) (next : Open S V) → IsClear (more remembered next))
      → IsClear (after_made tables made across open_ item more)
  of_after_made (Err Memory) across open_ item more is h = tt
  of_after_made (Err (Frame fault)) across open_ item more is h = is
  of_after_made (Ok made) across open_ item more is h =
      of_noted (note_of_made tables made across) made open_ item more (of_note made across) h

  -- where it ends with one more item, and no fault stands there
  pub of_one : (length : ℕ) (across : X) (open_ : Open S V) (item : Item)
      → IsClear (read_items tables length across open_ None (item ∷ []))
  unfolding read_items
  of_one length across open_ item =
      of_after_made (made_by tables across open_ item) across open_ item
      (λ remembered next. read_items tables length remembered next None [])
      (of_made across open_ item) (of_nothing length)

pub of_finish : {S V F : Type 0} (with_ : F → S → List (Taken V) → F) (facts : F)
    (read : Result (Document S V) ReadRefusal)
    → IsClear read → IsClear (finish with_ facts read)
of_finish with_ facts (Ok document) h = tt
of_finish with_ facts (Err Memory) h = tt
of_finish with_ facts (Err (Frame fault)) h = h
