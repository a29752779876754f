-- An item that ends a document has an object, where documents end with objects.
use Rattle.std.proofs.Common.{◌≡◌, ℕ, Bool, true, false, List, [], ◌∷◌, Option, Some, None, Result, Ok, Err, refl}
use Rattle.std.specs.Prelude.{is_some, not, ◌&&◌, if◌then◌else◌}
use Rattle.item_terms.specs.Items.{Item}
use Rattle.frame_terms.specs.Decisions.{beginning_reason, beyond_inner, first_item, made_after, made_by, unless_fault}
use Rattle.frame_terms.specs.{Decisions.unless_refused, Keywords.{same, word_of}, Order.{first_of, following_sections}}
use Rattle.frame_terms.specs.{Order.{inner, is_keyword, is_strange, opened_by, passed_over}, Refusals.refusal_at}
use Rattle.frame_terms.specs.{Rows.is_many, Sections.{accept, lacking_keyword, lacking_but, row_of, stands, taken_as}}
use Rattle.frame_terms.specs.{Sections.taken_of, Standing.{as_made, begins, begins_again, by_keyword, by_row}}
use Rattle.frame_terms.specs.{Standing.{elsewhere, ends, enters, goes_on, in_section, unless}, Tables.Tables}
use Rattle.frame_terms.specs.declared.document.{Group.Group, Made.{Made, TheVariants.{Passes, Pushes, Leaves, Ends}}}
use Rattle.frame_terms.specs.declared.document.{Made.TheVariants.{Opens, Enters, Stops}, Open.Open, Taken.Taken}
use Rattle.frame_terms.specs.declared.fault.{FrameFault.FrameFault, FrameReason.{FrameReason, TheVariants.Order}}
use Rattle.frame_terms.specs.declared.fault.{FrameReason.TheVariants.Twice, ReadRefusal.ReadRefusal}
use Rattle.frame_terms.specs.declared.{keyword.Keyword.Keyword, row.Row.Row, section.Again.Again}
use Rattle.frame_terms.specs.declared.section.Again.TheVariants as again
use Rattle.grammar_laws.specs.Parts.{EndWithObjects}

module _ {S V : Type 0} where
  -- it ends the document with its object, or does not end it
  abbrev pub HasObject : Item → Made S V → Type 0
  HasObject item Passes = Unit {0}
  HasObject item (Pushes one) = Unit {0}
  HasObject item (Opens section one) = Unit {0}
  HasObject item (Enters section one) = Unit {0}
  HasObject item (Leaves one) = Unit {0}
  HasObject item (Ends one) = is_some item.object ≡ true
  HasObject item Stops = ⊥

  -- and so where it is refused
  abbrev pub IsRight : Item → Result (Made S V) ReadRefusal → Type 0
  IsRight item (Ok made) = HasObject item made
  IsRight item (Err refusal) = Unit {0}

  right_unless : (item : Item) (fault : Option FrameFault) (r : Result (Made S V) ReadRefusal) → IsRight item r
      → IsRight item (unless_fault fault r)
  right_unless item None r is = is
  right_unless item (Some fault) r is = tt

  right_reason : (item : Item) (place : ℕ) (reason : Option FrameReason) (r : Result (Made S V) ReadRefusal)
      → IsRight item r
      → IsRight item (unless_refused place reason r)
  right_reason item place None r is = is
  right_reason item place (Some reason) r is = tt

  right_keyword : (item : Item) (place : ℕ) (missing : Option Keyword) (r : Result (Made S V) ReadRefusal)
      → IsRight item r
      → IsRight item (unless place missing r)
  right_keyword item place None r is = is
  right_keyword item place (Some keyword) r is = tt

  right_made : (item : Item) (make : Taken V → Made S V) → ((one : Taken V) → HasObject item (make one))
      → (r : Result (Taken V) ReadRefusal) → IsRight item (as_made make r)
  right_made item make are (Ok one) = are one
  right_made item make are (Err refusal) = tt

  right_enters : (item : Item) (section : Option S) (one : Taken V) → HasObject item (enters section one)
  right_enters item None one = tt
  right_enters item (Some section) one = tt

  right_ends : (item : Item) (around : Option (Group S V)) (one : Taken V) → is_some item.object ≡ true
      → HasObject item (ends around one)
  right_ends item None one is = is
  right_ends item (Some group) one is = tt

module _ {S K V X : Type 0} (tables : Tables S K V X) (end : EndWithObjects tables) (across : X) (item : Item) where
  right_begins : (make : Taken V → Made S V) → ((one : Taken V) → HasObject item (make one)) → (found : Option (Row K))
      → IsRight item (begins tables across make item found)
  right_begins make are None = tt
  right_begins make are (Some row) = right_made item make are (accept tables across row [] item)

  right_last : (open_ : Open S V) (row : Row K)
      → ((value : V) → tables.value_of across row.kind item ≡ Ok value → is_some item.object ≡ true)
      → IsRight item (as_made (ends open_.around) (accept tables across row open_.taken item))
  right_last open_ row some =
      by (not (is_many row.count) && stands row.keyword open_.taken) (tables.value_of across row.kind item) refl
    where
      by : (twice : Bool) (said : Result V FrameFault) → tables.value_of across row.kind item ≡ said
          → IsRight item (as_made (ends open_.around)
          (if twice then Err (refusal_at item.place (Twice row.keyword)) else taken_as row.keyword item said))
      by true said e = tt
      by false (Err fault) e = tt
      by false (Ok value) e = right_ends item open_.around (taken_of row.keyword item value) (some value e)

  right_goes_on : (open_ : Open S V) (row : Row K) (more : Again) → (more ≡ again.Document → ⊥)
      → IsRight item (goes_on tables across open_ item row more)
  right_goes_on open_ row again.Nothing never =
      right_made item (enters (inner tables open_.section row.keyword))
      (right_enters item (inner tables open_.section row.keyword))
      (accept tables across row open_.taken item)
  right_goes_on open_ row again.Section never =
      right_keyword item item.place (lacking_keyword (tables.rows open_.section) open_.taken)
      (as_made (Opens open_.section) (accept tables across row [] item))
      (right_made item (Opens open_.section) (λ one. tt) (accept tables across row [] item))
  right_goes_on open_ row again.Document never = absurd (never refl)

  right_section : (open_ : Open S V) (keyword : Keyword) (row : Row K)
      → row_of (tables.rows open_.section) keyword ≡ Some row
      → IsRight item (in_section tables across open_ item row)
  right_section open_ keyword row there = by_last (is_keyword ((tables.shape open_.section).last) row.keyword) refl
    where
      nothing_again : (t : Bool) → (if t then (tables.shape open_.section).again else again.Nothing) ≡ again.Document
          → ⊥
      nothing_again true e = end.alone open_.section e
      nothing_again false e = cc e

      by_last : (t : Bool) → is_keyword ((tables.shape open_.section).last) row.keyword ≡ t
          → IsRight item (if t then
          unless item.place (lacking_but (tables.rows open_.section) row.keyword open_.taken)
          (as_made (ends open_.around) (accept tables across row open_.taken item))
          else goes_on tables across open_ item row (begins_again tables open_.section row))
      by_last true e =
          right_keyword item item.place (lacking_but (tables.rows open_.section) row.keyword open_.taken)
          (as_made (ends open_.around) (accept tables across row open_.taken item))
          (right_last open_ row (λ value says. end.objects open_.section keyword row there e across item value says))
      by_last false e =
          right_goes_on open_ row (begins_again tables open_.section row)
          (nothing_again (same ((tables.shape open_.section).opener) row.keyword))

  right_elsewhere : (open_ : Open S V) (keyword : Keyword) (other : Option S)
      → IsRight item (elsewhere tables across open_ item keyword other)
  right_elsewhere open_ keyword None = by (is_strange tables open_.section keyword)
    where
      by : (t : Bool) → IsRight {S = S} {V = V} item (if t then Err (refusal_at item.place Order) else Ok Passes)
      by true = tt
      by false = tt
  right_elsewhere open_ keyword (Some other) =
      right_keyword item item.place
      (first_of (lacking_keyword (tables.rows open_.section) open_.taken)
      (passed_over tables keyword (following_sections tables open_.section)))
      (begins tables across (Opens other) item (row_of (tables.rows other) keyword))
      (right_begins (Opens other) (λ one. tt) (row_of (tables.rows other) keyword))

  right_row : (open_ : Open S V) (keyword : Keyword) (found : Option (Row K))
      → row_of (tables.rows open_.section) keyword ≡ found
      → IsRight item (by_row tables across open_ item keyword found)
  right_row open_ keyword None there =
      right_elsewhere open_ keyword (opened_by tables keyword (following_sections tables open_.section))
  right_row open_ keyword (Some row) there = by (tables.ignores row.kind item)
    where
      by : (t : Bool) → IsRight item (if t then Ok Passes else in_section tables across open_ item row)
      by true = tt
      by false = right_section open_ keyword row there

  right_word : (open_ : Open S V) (word : Option Keyword) → IsRight item (by_keyword tables across open_ item word)
  right_word open_ None = tt
  right_word open_ (Some keyword) = right_row open_ keyword (row_of (tables.rows open_.section) keyword) refl

  right_first : (word : Option Keyword) → IsRight item (first_item tables across item word)
  right_first None = tt
  right_first (Some keyword) = right_begins Pushes (λ one. tt) (row_of (tables.rows tables.first) keyword)

  right_after : (open_ : Open S V) (taken : List (Taken V))
      → IsRight item (made_after tables across open_ item (word_of item.keyword) taken)
  right_after open_ [] =
      right_reason item item.place (beginning_reason tables (word_of item.keyword))
      (first_item tables across item (word_of item.keyword))
      (right_first (word_of item.keyword))
  right_after open_ (one ∷ taken) =
      right_unless item (beyond_inner tables open_.section open_.taken open_.around item (word_of item.keyword))
      (by_keyword tables across open_ item (word_of item.keyword)) (right_word open_ (word_of item.keyword))

  -- an item that ends the document has an object
  pub made_right : (open_ : Open S V) → IsRight item (made_by tables across open_ item)
  made_right open_ = right_after open_ open_.taken
