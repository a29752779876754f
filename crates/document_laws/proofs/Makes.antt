-- What an item makes is one of the ways in which it may stand.
use Rattle.std.proofs.Common.{◌≡◌, ℕ, Bool, true, false, List, [], Option, Some, None, Result, Ok, Err, refl, sym, ap}
use Rattle.std.{proofs.Common.{◌∙◌, inl, inr, subst}, specs.Prelude.{IfSome, not, ◌&&◌, if◌then◌else◌}}
use Rattle.item_terms.specs.Items.{Item}
use Rattle.frame_terms.specs.declared.document.{Group.Group, Made.{Made, TheVariants.{Passes, Pushes, Opens}}}
use Rattle.frame_terms.specs.declared.{document.{Open.Open, Taken.Taken}, fault.FrameFault.FrameFault}
use Rattle.frame_terms.specs.declared.fault.{FrameReason.TheVariants.{Missing, Twice}, ReadRefusal.ReadRefusal}
use Rattle.frame_terms.specs.declared.{keyword.Keyword.Keyword, row.Row.Row, section.Again.Again}
use Rattle.frame_terms.specs.Decisions.{beyond_inner, first_item, made_first, made_later, unless_fault, unless_refused}
use Rattle.frame_terms.specs.{Keywords.{same, word_of}, Order.{begins_document, first_of, following_sections, inner}}
use Rattle.frame_terms.specs.{Order.{is_keyword, is_strange, opened_by, opener, passed_over}, Refusals.refusal_at}
use Rattle.frame_terms.specs.{Rows.is_many, Sections.{accept, lacking_keyword, lacking_but, row_of, stands, taken_as}}
use Rattle.frame_terms.specs.{Sections.taken_of, Standing.{as_made, begins, begins_again, by_keyword, by_row}}
use Rattle.frame_terms.specs.{Standing.{elsewhere, ends, enters, goes_on, in_section, unless}, Tables.Tables}
use Rattle.frame_terms.specs.declared.section.Again.TheVariants as again
use Rattle.frame_laws.proofs.{KnownWords.{same-sym, same-through}, Steps.opening}
use Rattle.document_laws.proofs.Ways.{FirstMay, IsAccepted, IsAdded, IsEnding, LacksOpener, LaterMay}
use Rattle.document_laws.proofs.Openers.{opened_same, row_of-one, row_of-same}

-- ---- of an answer

module _ {S V : Type 0} where
  -- what is made may be made, unless the item is refused
  abbrev pub Makes : (Made S V → Type 0) → Result (Made S V) ReadRefusal → Type 0
  Makes May (Ok made) = May made
  Makes May (Err refusal) = Unit {0}

  makes_if : (May : Made S V → Type 0) (test : Bool) (a b : Result (Made S V) ReadRefusal)
      → (test ≡ true → Makes May a) → (test ≡ false → Makes May b) → Makes May (if test then a else b)
  makes_if May true a b where_so where_not = where_so refl
  makes_if May false a b where_so where_not = where_not refl

  makes_unless : (May : Made S V → Type 0) (place : ℕ) (missing : Option Keyword) (other : Result (Made S V) ReadRefusal)
      → (missing ≡ None → Makes May other) → Makes May (unless place missing other)
  makes_unless May place None other is = is refl
  makes_unless May place (Some keyword) other is = tt

  makes_unless_fault : (May : Made S V → Type 0) (fault : Option FrameFault) (other : Result (Made S V) ReadRefusal)
      → Makes May other → Makes May (unless_fault fault other)
  makes_unless_fault May None other is = is
  makes_unless_fault May (Some fault) other is = tt

-- ---- an item that is accepted

module _ {S K V X : Type 0} (tables : Tables S K V X) (across : X) (item : Item) (May : Made S V → Type 0) where
  -- an item by its row, with what it says
  makes_of_value : (section : S) (before : List (Taken V)) (keyword : Keyword) (row : Row K) (make : Taken V → Made S V)
      (value : Result V FrameFault) → word_of item.keyword ≡ Some keyword
      → row_of (tables.rows section) keyword ≡ Some row
      → (not (is_many row.count) && stands row.keyword before) ≡ false
      → tables.value_of across row.kind item ≡ value
      → ((one : Taken V) (accepted : IsAccepted tables across section before item one) → accepted.taken.row ≡ row
      → one.keyword ≡ row.keyword → May (make one))
      → Makes May (as_made make (taken_as row.keyword item value))
  makes_of_value section before keyword row make (Err fault) known has_row once says may = tt
  makes_of_value section before keyword row make (Ok value) known has_row once says may =
      may (taken_of row.keyword item value)
      (record {
        taken = record {
          keyword = keyword;
          row = row;
          known = known;
          has_row = has_row;
          value = value;
          says = says;
          stands = refl;
        };
        once = once;
      }) refl refl

  -- an item by its row, unless one stands
  makes_of_row : (section : S) (before : List (Taken V)) (keyword : Keyword) (row : Row K) (make : Taken V → Made S V)
      → word_of item.keyword ≡ Some keyword → row_of (tables.rows section) keyword ≡ Some row
      → ((one : Taken V) (accepted : IsAccepted tables across section before item one) → accepted.taken.row ≡ row
      → one.keyword ≡ row.keyword → May (make one))
      → Makes May (as_made make (accept tables across row before item))
  makes_of_row section before keyword row make known has_row may =
      by_test (not (is_many row.count) && stands row.keyword before) refl
    where
      by_test : (test : Bool) → (not (is_many row.count) && stands row.keyword before) ≡ test
          → Makes May (as_made make (if test then Err (refusal_at item.place (Twice row.keyword))
          else taken_as row.keyword item (tables.value_of across row.kind item)))
      by_test true twice = tt
      by_test false once =
          makes_of_value section before keyword row make (tables.value_of across row.kind item) known has_row once refl
          may

-- ---- the first item

module _ {S K V X : Type 0} (tables : Tables S K V X) (across : X) (item : Item) where
  -- an item that begins a section, by its row there; where it has none its section has no row for its opener
  makes_begin : (May : Made S V → Type 0) (section : S) (keyword : Keyword) (make : Taken V → Made S V)
      (row : Option (Row K)) → word_of item.keyword ≡ Some keyword → row_of (tables.rows section) keyword ≡ row
      → same (opener tables section) keyword ≡ true → (LacksOpener tables → May Passes)
      → ((one : Taken V) → IsAccepted tables across section [] item one
      → same (opener tables section) one.keyword ≡ true → May (make one))
      → Makes May (begins tables across make item row)
  makes_begin May section keyword make None known has_row opens lacks may =
      lacks (record {
        section = section;
        has_none = row_of-one (tables.rows section) (opener tables section) keyword opens ∙ has_row;
      })
  makes_begin May section keyword make (Some row) known has_row opens lacks may =
      let there : same row.keyword keyword ≡ true = row_of-same (tables.rows section) keyword row has_row in
      let opens_row : same (opener tables section) row.keyword ≡ true =
      same-sym (opener tables section) row.keyword
      ∙ same-through row.keyword keyword (opener tables section) there
      ∙ same-sym keyword (opener tables section) ∙ opens in
      makes_of_row tables across item May section [] keyword row make known has_row
      (λ one accepted row_is named. may one accepted (ap (λ (k : Keyword). same (opener tables section) k) named ∙ opens_row))

  makes_first_item : (word : Option Keyword) → word_of item.keyword ≡ word → begins_document tables word ≡ true
      → Makes (FirstMay tables across item) (first_item tables across item word)
  makes_first_item None known begins_ = absurd (cc (begins_))
  makes_first_item (Some keyword) known begins_ =
      makes_begin (FirstMay tables across item) tables.first keyword Pushes (row_of (tables.rows tables.first) keyword)
      known refl (same-sym (opener tables tables.first) keyword ∙ begins_) (λ lacks. lacks)
      (λ one accepted opens. record { accepted = accepted; opens = opens })

  -- the first item of a document
  pub makes_first : Makes (FirstMay tables across item) (made_first tables across item (word_of item.keyword))
  makes_first = by_test (begins_document tables (word_of item.keyword)) refl
    where
      by_test : (test : Bool) → begins_document tables (word_of item.keyword) ≡ test
          → Makes (FirstMay tables across item) (unless_refused item.place
          (if test then None else Some (Missing (opener tables tables.first)))
          (first_item tables across item (word_of item.keyword)))
      by_test true is = makes_first_item (word_of item.keyword) refl is
      by_test false is = tt

-- ---- a later item

-- an item that begins the same section once more
as_again : (test : Bool) (more : Again) → (if test then more else again.Nothing) ≡ again.Section
    → (test ≡ true) × (more ≡ again.Section)
as_again true more e = (refl, e)
as_again false more e = absurd (cc (e))

-- an item that begins the next document
as_next : (test : Bool) (more : Again) → (if test then more else again.Nothing) ≡ again.Document
    → more ≡ again.Document
as_next true more e = e
as_next false more e = absurd (cc (e))

-- of two keywords that may be missing neither is
pub neither : (a b : Option Keyword) → first_of a b ≡ None → (a ≡ None) × (b ≡ None)
neither None b e = (refl, e)
neither (Some keyword) b e = absurd (cc (e))

module _ {S K V X : Type 0} (tables : Tables S K V X) (across : X) (section : S) (taken : List (Taken V))
    (around : Option (Group S V)) (item : Item) where
  -- what is open
  abbrev here : Open S V
  here = opening section taken around

  abbrev May : Made S V → Type 0
  May = LaterMay tables across here item

  -- the last item of a section
  ends_may : (other : Option (Group S V)) (one : Taken V) → around ≡ other
      → IsEnding tables across section taken item one → May (ends other one)
  ends_may None one e ending = (ending, e)
  ends_may (Some group) one e ending = (ending, (group, e))

  -- another one
  enters_may : (inside : Option S) (one : Taken V) → inner tables section one.keyword ≡ inside
      → IsAdded tables across section taken item one → May (enters inside one)
  enters_may None one e added = added
  enters_may (Some other) one e added = record { added = added; begins = e }

  -- one more opener, where it begins the section once more
  once_more : (row : Row K) → begins_again tables section row ≡ again.Section
      → (same (opener tables section) row.keyword ≡ true) × ((tables.shape section).again ≡ again.Section)
  once_more row e = as_again (same (opener tables section) row.keyword) ((tables.shape section).again) e

  -- an item of a row that does not end the section, by what it begins
  makes_on : (keyword : Keyword) (row : Row K) (more : Again) → word_of item.keyword ≡ Some keyword
      → row_of (tables.rows section) keyword ≡ Some row
      → is_keyword ((tables.shape section).last) row.keyword ≡ false → tables.ignores row.kind item ≡ false
      → begins_again tables section row ≡ more → Makes May (goes_on tables across here item row more)
  makes_on keyword row again.Nothing known has_row not_last regarded e =
      makes_of_row tables across item May section taken keyword row (enters (inner tables section row.keyword)) known
      has_row
      (λ one accepted row_is named. enters_may (inner tables section row.keyword) one
      (ap (λ (k : Keyword). inner tables section k) named)
      (record {
        accepted = accepted;
        goes_on = ap (λ (k : Keyword). is_keyword ((tables.shape section).last) k) named ∙ not_last;
        regarded = ap (λ (r : Row K). tables.ignores r.kind item) row_is ∙ regarded;
      }))
  makes_on keyword row again.Section known has_row not_last regarded e =
      makes_unless May item.place (lacking_keyword (tables.rows section) taken) _ (λ whole.
      makes_of_row tables across item May section [] keyword row (Opens section) known has_row
      (λ one accepted row_is named. record {
        whole = whole;
        accepted = accepted;
        opens = ap (λ (k : Keyword). same (opener tables section) k) named ∙ (once_more row e).0;
        follows = inr (record { same_name = refl; repeats = (once_more row e).1 });
      }))
  makes_on keyword row again.Document known has_row not_last regarded e =
      makes_unless May item.place (lacking_keyword (tables.rows section) taken) _
      (λ whole. record {
        whole = whole;
        stops = as_next (same (opener tables section) row.keyword) ((tables.shape section).again) e;
      })

  makes_in : (keyword : Keyword) (row : Row K) → word_of item.keyword ≡ Some keyword
      → row_of (tables.rows section) keyword ≡ Some row → tables.ignores row.kind item ≡ false
      → Makes May (in_section tables across here item row)
  makes_in keyword row known has_row regarded =
      makes_if May (is_keyword ((tables.shape section).last) row.keyword) _ _
      (λ last. makes_unless May item.place (lacking_but (tables.rows section) row.keyword taken) _ (λ whole.
      makes_of_row tables across item May section taken keyword row (ends around) known has_row
      (λ one accepted row_is named. ends_may around one refl (record {
        accepted = accepted;
        ends = ap (λ (k : Keyword). is_keyword ((tables.shape section).last) k) named ∙ last;
        whole = ap (λ (k : Keyword). lacking_but (tables.rows section) k taken) named ∙ whole;
        regarded = ap (λ (r : Row K). tables.ignores r.kind item) row_is ∙ regarded;
      }))))
      (λ not_last. makes_on keyword row (begins_again tables section row) known has_row not_last regarded refl)

  -- an item of a row of the section that is open
  makes_with_row : (keyword : Keyword) (row : Row K) → word_of item.keyword ≡ Some keyword
      → row_of (tables.rows section) keyword ≡ Some row → Makes May (by_row tables across here item keyword (Some row))
  makes_with_row keyword row known has_row =
      makes_if May (tables.ignores row.kind item) _ _
      (λ ignored. inl (inr (record {
        keyword = keyword;
        row = row;
        known = known;
        has_row = has_row;
        ignored = ignored;
      })))
      (λ regarded. makes_in keyword row known has_row regarded)

  -- an item of no row of it
  makes_elsewhere : (keyword : Keyword) (other : Option S) → word_of item.keyword ≡ Some keyword
      → opened_by tables keyword (following_sections tables section) ≡ other
      → Makes May (elsewhere tables across here item keyword other)
  makes_elsewhere keyword None known opened =
      makes_if May (is_strange tables section keyword) _ _ (λ is. tt)
      (λ is_unknown.
      inl (inl (subst (λ (w : Option Keyword). IfSome w (λ k. is_strange tables section k ≡ false)) (sym known) is_unknown)))
  makes_elsewhere keyword (Some other) known opened =
      makes_unless May item.place
      (first_of (lacking_keyword (tables.rows section) taken) (passed_over tables keyword (following_sections tables section))) _
      (λ none. makes_begin tables across item May other keyword (Opens other) (row_of (tables.rows other) keyword) known
      refl (opened_same tables keyword (following_sections tables section) other opened) (λ lacks. inr lacks)
      (λ one accepted opens. record {
        whole = (neither (lacking_keyword (tables.rows section) taken) (passed_over tables keyword (following_sections tables section)) none).0;
        accepted = accepted;
        opens = opens;
        follows = inl (record {
          keyword = keyword;
          opened = opened;
          passes_none =
              (neither (lacking_keyword (tables.rows section) taken) (passed_over tables keyword (following_sections tables section)) none).1;
        });
      }))

  makes_by_row : (keyword : Keyword) (row : Option (Row K)) → word_of item.keyword ≡ Some keyword
      → row_of (tables.rows section) keyword ≡ row → Makes May (by_row tables across here item keyword row)
  makes_by_row keyword None known has_row =
      makes_elsewhere keyword (opened_by tables keyword (following_sections tables section)) known refl
  makes_by_row keyword (Some row) known has_row = makes_with_row keyword row known has_row

  makes_by_keyword : (word : Option Keyword) → word_of item.keyword ≡ word
      → Makes May (by_keyword tables across here item word)
  makes_by_keyword None known =
      inl (inl (subst (λ (w : Option Keyword). IfSome w (λ k. is_strange tables section k ≡ false)) (sym known) tt))
  makes_by_keyword (Some keyword) known = makes_by_row keyword (row_of (tables.rows section) keyword) known refl

  -- a later item of a document
  pub makes_later : Makes May (made_later tables across here item (word_of item.keyword))
  makes_later =
      makes_unless_fault May (beyond_inner tables section taken around item (word_of item.keyword)) _
      (makes_by_keyword (word_of item.keyword) refl)
