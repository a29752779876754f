-- What is known of an item beside the way in which it stands: what it begins, and that it is within the limits.
use Rattle.std.proofs.Common.{◌≡◌, ℕ, Bool, true, false, List, [], Option, Some, None, Result, Ok, Err, refl, ap, ◌∙◌}
use Rattle.std.specs.Prelude.{not, ◌&&◌, if◌then◌else◌}
use Rattle.item_terms.specs.Items.{Item}
use Rattle.frame_terms.specs.declared.document.{Group.Group, Made.{Made, TheVariants.{Passes, Pushes, Opens, Enters}}}
use Rattle.frame_terms.specs.declared.document.{Made.TheVariants.{Leaves, Ends, Stops}, Open.Open, Taken.Taken}
use Rattle.frame_terms.specs.declared.fault.{FrameFault.FrameFault, FrameReason.TheVariants.Twice}
use Rattle.frame_terms.specs.declared.{fault.ReadRefusal.ReadRefusal, keyword.Keyword.Keyword, row.Row.Row}
use Rattle.frame_terms.specs.{declared.section.Again.Again, Decisions.{beyond_inner, made_later, unless_fault}}
use Rattle.frame_terms.specs.{Keywords.{same, word_of}, Order.{first_of, following_sections, inner, is_keyword}}
use Rattle.frame_terms.specs.{Order.{is_strange, opened_by, opener, passed_over}, Refusals.refusal_at, Rows.is_many}
use Rattle.frame_terms.specs.Sections.{accept, lacking_keyword, lacking_but, row_of, stands, taken_as, taken_of}
use Rattle.frame_terms.specs.Standing.{as_made, begins, begins_again, by_keyword, by_row, elsewhere, ends, enters}
use Rattle.frame_terms.specs.{Standing.{goes_on, in_section, unless}, Tables.Tables}
use Rattle.frame_terms.specs.declared.section.Again.TheVariants as again
use Rattle.frame_laws.proofs.{KnownWords.same-sym, Steps.opening}
use Rattle.document_laws.proofs.{Makes.{Makes, makes_later}, Openers.row_of-same, Ways.LaterMay, Steps.same-both}

-- an item that is one more opener of a section
pub record IsNextOpener {S K V X : Type 0} (tables : Tables S K V X) (section : S) (item : Item) : Type 0 where
  pub keyword : Keyword
  pub known : word_of item.keyword ≡ Some keyword
  pub opens : same (opener tables section) keyword ≡ true

module _ {S V : Type 0} where
  -- ---- of an answer

  of_if : (May : Made S V → Type 0) (test : Bool) (a b : Result (Made S V) ReadRefusal)
      → (test ≡ true → Makes May a) → (test ≡ false → Makes May b) → Makes May (if test then a else b)
  of_if May true a b where_so where_not = where_so refl
  of_if May false a b where_so where_not = where_not refl

  of_unless : (May : Made S V → Type 0) (place : ℕ) (missing : Option Keyword) (other : Result (Made S V) ReadRefusal)
      → Makes May other → Makes May (unless place missing other)
  of_unless May place None other is = is
  of_unless May place (Some keyword) other is = tt

  of_fault : (May : Made S V → Type 0) (fault : Option FrameFault) (other : Result (Made S V) ReadRefusal)
      → Makes May other → Makes May (unless_fault fault other)
  of_fault May None other is = is
  of_fault May (Some fault) other is = tt

  -- two ways that hold, where there is no fault
  of_both : (A B : Made S V → Type 0) (found fault : Option FrameFault) (other : Result (Made S V) ReadRefusal)
      → found ≡ fault → Makes A (unless_fault fault other) → Makes B (unless_fault fault other)
      → Makes (λ made. (A made × B made) × (found ≡ None)) (unless_fault fault other)
  of_both A B found None (Ok made) e a b = ((a, b), e)
  of_both A B found None (Err refusal) e a b = tt
  of_both A B found (Some fault) other e a b = tt

module _ {S K V X : Type 0} where
  -- an item that is added begins no section inside this one; one before which a document stops begins the next
  abbrev pub AlsoMay : Tables S K V X → S → Item → Made S V → Type 0
  AlsoMay tables section item Passes = Unit {0}
  AlsoMay tables section item (Pushes one) = inner tables section one.keyword ≡ None
  AlsoMay tables section item (Opens next one) = Unit {0}
  AlsoMay tables section item (Enters inside one) = Unit {0}
  AlsoMay tables section item (Leaves one) = Unit {0}
  AlsoMay tables section item (Ends one) = Unit {0}
  AlsoMay tables section item Stops = IsNextOpener tables section item

-- an item that begins the next document is an opener
as_next : (test : Bool) (more : Again) → (if test then more else again.Nothing) ≡ again.Document → test ≡ true
as_next true more e = refl
as_next false more e = absurd (cc (e))

module _ {S K V X : Type 0} (tables : Tables S K V X) (across : X) (section : S) (taken : List (Taken V))
    (around : Option (Group S V)) (item : Item) where
  abbrev here : Open S V
  here = opening section taken around

  abbrev Also : Made S V → Type 0
  Also = AlsoMay tables section item

  -- an item that is accepted has its row's keyword
  of_accept : (row : Row K) (before : List (Taken V)) (make : Taken V → Made S V)
      → ((one : Taken V) → one.keyword ≡ row.keyword → Also (make one))
      → Makes Also (as_made make (accept tables across row before item))
  of_accept row before make is =
      by_test (not (is_many row.count) && stands row.keyword before) (tables.value_of across row.kind item)
    where
      by_test : (test : Bool) (value : Result V FrameFault)
          → Makes Also (as_made make (if test then Err (refusal_at item.place (Twice row.keyword))
          else taken_as row.keyword item value))
      by_test true value = tt
      by_test false (Err fault) = tt
      by_test false (Ok value) = is (taken_of row.keyword item value) refl

  enters_also : (found : Option S) (one : Taken V) → inner tables section one.keyword ≡ found → Also (enters found one)
  enters_also None one e = e
  enters_also (Some inside) one e = tt

  ends_also : (other : Option (Group S V)) (one : Taken V) → Also (ends other one)
  ends_also None one = tt
  ends_also (Some group) one = tt

  on_also : (keyword : Keyword) (row : Row K) (more : Again) → word_of item.keyword ≡ Some keyword
      → row_of (tables.rows section) keyword ≡ Some row → begins_again tables section row ≡ more
      → Makes Also (goes_on tables across here item row more)
  on_also keyword row again.Nothing known has_row e =
      of_accept row taken (enters (inner tables section row.keyword))
      (λ one named. enters_also (inner tables section row.keyword) one
      (ap (λ (k : Keyword). inner tables section k) named))
  on_also keyword row again.Section known has_row e =
      of_unless Also item.place (lacking_keyword (tables.rows section) taken) _
      (of_accept row [] (Opens section) (λ one named. tt))
  on_also keyword row again.Document known has_row e =
      of_unless Also item.place (lacking_keyword (tables.rows section) taken) (Ok Stops) (record {
        keyword = keyword;
        known = known;
        opens = same-both row.keyword (opener tables section) keyword
            (same-sym row.keyword (opener tables section)
            ∙ as_next (same (opener tables section) row.keyword) ((tables.shape section).again) e)
            (row_of-same (tables.rows section) keyword row has_row);
      })

  row_also : (keyword : Keyword) (row : Row K) → word_of item.keyword ≡ Some keyword
      → row_of (tables.rows section) keyword ≡ Some row
      → Makes Also (by_row tables across here item keyword (Some row))
  row_also keyword row known has_row =
      of_if Also (tables.ignores row.kind item) (Ok Passes) (in_section tables across here item row) (λ is. tt)
      (λ is.
      of_if Also (is_keyword ((tables.shape section).last) row.keyword) _ _
      (λ last. of_unless Also item.place (lacking_but (tables.rows section) row.keyword taken) _
      (of_accept row taken (ends around) (λ one named. ends_also around one)))
      (λ not_last. on_also keyword row (begins_again tables section row) known has_row refl))

  elsewhere_also : (keyword : Keyword) (other : Option S) → Makes Also (elsewhere tables across here item keyword other)
  elsewhere_also keyword None = of_if Also (is_strange tables section keyword) _ _ (λ is. tt) (λ is. tt)
  elsewhere_also keyword (Some other) =
      of_unless Also item.place
      (first_of (lacking_keyword (tables.rows section) taken) (passed_over tables keyword (following_sections tables section))) _
      (begun (row_of (tables.rows other) keyword))
    where
      begun : (row : Option (Row K)) → Makes Also (begins tables across (Opens other) item row)
      begun None = tt
      begun (Some row) = of_accept row [] (Opens other) (λ one named. tt)

  by_row_also : (keyword : Keyword) (row : Option (Row K)) → word_of item.keyword ≡ Some keyword
      → row_of (tables.rows section) keyword ≡ row → Makes Also (by_row tables across here item keyword row)
  by_row_also keyword None known has_row = elsewhere_also keyword (opened_by tables keyword (following_sections tables section))
  by_row_also keyword (Some row) known has_row = row_also keyword row known has_row

  by_keyword_also : (word : Option Keyword) → word_of item.keyword ≡ word
      → Makes Also (by_keyword tables across here item word)
  by_keyword_also None known = tt
  by_keyword_also (Some keyword) known = by_row_also keyword (row_of (tables.rows section) keyword) known refl

  -- a later item, with all that is known of it
  pub makes_near : Makes
      (λ (made : Made S V). (LaterMay tables across here item made × AlsoMay tables section item made)
      × (beyond_inner tables section taken around item (word_of item.keyword) ≡ None))
      (made_later tables across here item (word_of item.keyword))
  makes_near =
      let fault = beyond_inner tables section taken around item (word_of item.keyword) in
      let other = by_keyword tables across here item (word_of item.keyword) in
      of_both (LaterMay tables across here item) Also fault fault other refl
      (makes_later tables across section taken around item)
      (of_fault Also fault other (by_keyword_also (word_of item.keyword) refl))
