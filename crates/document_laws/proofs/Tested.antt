-- Tables that pass the tests are clear.
use Rattle.std.proofs.Common.{◌≡◌, Bool, true, false, List, [], ◌∷◌, Option, Some, None, refl, sym, ap, subst, ◌∙◌}
use Rattle.std.specs.{Prelude.{◌&&◌, ◌||◌, not, map, IfSome, is_some, if◌then◌else◌}, List.{AllByRecursion, IsDistinct}}
use Rattle.std.specs.List.{list_all}
use Rattle.item_terms.specs.Items.{Item}
use Rattle.frame_terms.specs.declared.{keyword.Keyword.Keyword, row.Count.{Count, TheVariants.{One, Optional, Many}}}
use Rattle.frame_terms.specs.declared.{row.Row.Row, section.Again.{Again, TheVariants.{Nothing, Section, Document}}}
use Rattle.frame_terms.specs.{declared.section.Shape.Shape, Keywords.same, Order.{following_sections, is_keyword}}
use Rattle.frame_terms.specs.{Order.{opener, repeats}, Rows.{is_many, is_one}, Sections.row_of, Tables.Tables}
use Rattle.frame_laws.proofs.KnownWords.{same-refl}
use Rattle.document_laws.specs.{Sound.{AreSound, IsInner, StandsOnce, ends_document}, Clear.{AreClear, IsEnd}}
use Rattle.document_laws.specs.{Clear.IsEntrance, Tests.{IsRegarded, PassTests, differ, each, ends_well, if_there}}
use Rattle.document_laws.specs.Tests.{is_again, is_empty, is_inner, is_there, may_enter, once}

-- ---- tests of truth values and lists

first_of_both : (a b : Bool) → (a && b) ≡ true → a ≡ true
first_of_both true b is = refl
first_of_both false b is = absurd (cc (is))

second_of_both : (a b : Bool) → (a && b) ≡ true → b ≡ true
second_of_both true b is = is
second_of_both false b is = absurd (cc (is))

is_not : (a : Bool) → not a ≡ true → a ≡ false
is_not true is = absurd (cc (is))
is_not false is = refl

not_or : (a b : Bool) → (not a || b) ≡ true → a ≡ true → b ≡ true
not_or true b is holds = is
not_or false b is holds = absurd (cc (holds))

all_are : (tests : List Bool) → each tests ≡ true → AllByRecursion (λ test. test ≡ true) tests
all_are [] is = tt
all_are (test ∷ tests) is = (first_of_both test (each tests) is, all_are tests (second_of_both test (each tests) is))

none_is : {A : Type 0} (list : List A) → is_empty list ≡ true → list ≡ []
none_is [] is = refl
none_is (one ∷ more) is = absurd (cc (is))

no_one : {A : Type 0} (one : Option A) → not (is_some one) ≡ true → one ≡ None
no_one None is = refl
no_one (Some one) is = absurd (cc (is))

not_again : (more : Again) → not (is_again more) ≡ true → more ≡ Nothing
not_again Nothing is = refl
not_again Section is = absurd (cc (is))
not_again Document is = absurd (cc (is))

one_is : (count : Count) → is_one count ≡ true → count ≡ One
one_is One is = refl
one_is Optional is = absurd (cc (is))
one_is Many is = absurd (cc (is))

module _ {A : Type 0} (test : A → Bool) (P : A → Type 0) (holds : (one : A) → test one ≡ true → P one) where
  all_hold : (list : List A) → list_all test list ≡ true → AllByRecursion P list
  all_hold [] is = tt
  all_hold (one ∷ list) is = (
    holds one (first_of_both (test one) (list_all test list) is),
    all_hold list (second_of_both (test one) (list_all test list) is),
  )

  holds_there : (one : Option A) → if_there test one ≡ true → IfSome one P
  holds_there None is = tt
  holds_there (Some one) is = holds one is

-- what is there, and passes a test
record There {A : Type 0} (test : A → Bool) (option : Option A) : Type 0 where
  one : A
  found : option ≡ Some one
  passes : test one ≡ true

passing_is_found : {A : Type 0} (test : A → Bool) (option : Option A) → is_there test option ≡ true → There test option
passing_is_found test None is = absurd (cc (is))
passing_is_found test (Some one) is = record { one = one; found = refl; passes = is }

-- ---- keywords

distinct : (keywords : List Keyword) → differ keywords ≡ true → IsDistinct same keywords
unfolding IsDistinct
distinct [] is = tt
distinct (keyword ∷ keywords) is =
    let apart = list_all (λ other. not (same keyword other)) keywords in (
      all_hold (λ other. not (same keyword other)) (λ other. same keyword other ≡ false)
          (λ other no. is_not (same keyword other) no) keywords (first_of_both apart (differ keywords) is),
      distinct keywords (second_of_both apart (differ keywords) is),
    )

module _ {K : Type 0} where
  -- rows of which none has the keyword of one in front are found behind it
  found_behind : (front : Row K) (all rows : List (Row K))
      → AllByRecursion (λ other. same front.keyword other ≡ false) (map (λ (row : Row K). row.keyword) rows)
      → AllByRecursion (λ (row : Row K). row_of all row.keyword ≡ Some row) rows
      → AllByRecursion (λ (row : Row K). row_of (front ∷ all) row.keyword ≡ Some row) rows
  found_behind front all [] apart found = tt
  found_behind front all (row ∷ rows) apart found = (
    ap (λ (t : Bool). if t then Some front else row_of all row.keyword) apart.0 ∙ found.0,
    found_behind front all rows apart.1 found.1,
  )

  -- of rows of which no two have one keyword each is found by its keyword
  are_found : (rows : List (Row K)) → IsDistinct same (map (λ (row : Row K). row.keyword) rows)
      → AllByRecursion (λ (row : Row K). row_of rows row.keyword ≡ Some row) rows
  unfolding IsDistinct
  are_found [] apart = tt
  are_found (row ∷ rows) apart = (
    ap (λ (t : Bool). if t then Some row else row_of rows row.keyword) (same-refl row.keyword),
    found_behind row rows rows apart.0 (are_found rows apart.1),
  )

-- ---- sections

module _ {S K V X : Type 0} (tables : Tables S K V X) where
  stands_once : (section : S) (keyword : Keyword) → once tables section keyword ≡ true
      → StandsOnce tables section keyword
  stands_once section keyword is =
      let row = passing_is_found (λ (row : Row K). is_one row.count) (row_of (tables.rows section) keyword) is in
      record { row = row.one; has_row = row.found; once = one_is row.one.count row.passes }

  module _ (section : S) (last : Keyword) (is : ends_well tables section last ≡ true) where
    ends_tests : AllByRecursion (λ test. test ≡ true)
        (once tables section last ∷ not (same last (opener tables section)) ∷ [])
    ends_tests = all_are (once tables section last ∷ not (same last (opener tables section)) ∷ []) is

    last_once : StandsOnce tables section last
    last_once = stands_once section last ends_tests.0

    last_later : same last (opener tables section) ≡ false
    last_later = is_not (same last (opener tables section)) ends_tests.1.0

  inner_is : (section : S) → is_inner tables section ≡ true → IsInner tables section
  inner_is section is =
      let shape = tables.shape section in
      let tests = all_are
      (is_empty (following_sections tables section) ∷ not (is_again shape.again) ∷ not (is_some shape.inner)
      ∷ is_there (ends_well tables section) shape.last ∷ []) is in
      let last = passing_is_found (ends_well tables section) shape.last tests.1.1.1.0 in
      record {
        apart = none_is (following_sections tables section) tests.0;
        again = not_again shape.again tests.1.0;
        plain = no_one shape.inner tests.1.1.0;
        last = last.one;
        ends = last.found;
        last_once = last_once section last.one last.passes;
        later = last_later section last.one last.passes;
      }

  -- the row of what begins a section inside another, of which no item is ignored
  entrance_is : (section inside : S) → may_enter tables section inside ≡ true
      → IsRegarded tables section (opener tables inside) → IsEntrance tables section inside
  entrance_is section inside is regarded =
      let few = λ (row : Row K). not (is_many row.count) in
      let tests = all_are
      (is_there few (row_of (tables.rows section) (opener tables inside))
      ∷ not (is_keyword ((tables.shape section).last) (opener tables inside)) ∷ is_inner tables inside ∷ []) is in
      let row = passing_is_found few (row_of (tables.rows section) (opener tables inside)) tests.0 in
      record {
        row = row.one;
        has_row = row.found;
        few = is_not (is_many row.one.count) row.passes;
        regarded = subst (λ (found : Option (Row K)).
            IfSome found (λ (row : Row K). (item : Item) → tables.ignores row.kind item ≡ false)) row.found regarded;
        goes_on = is_not (is_keyword ((tables.shape section).last) (opener tables inside)) tests.1.0;
      }

  end_is : (section : S) (last : Keyword)
      → each (ends_well tables section last ∷ not (repeats ((tables.shape section).again)) ∷ []) ≡ true
      → IsEnd tables section last
  end_is section last is =
      let tests = all_are (ends_well tables section last ∷ not (repeats ((tables.shape section).again)) ∷ []) is in
      record {
        last_once = last_once section last tests.0;
        later = last_later section last tests.0;
        stands_once = is_not (repeats ((tables.shape section).again)) tests.1.0;
      }

module _ {S K V X : Type 0} (tables : Tables S K V X) (pass : PassTests tables) where
  module _ (section : S) where
    abbrev shape : Shape S
    shape = tables.shape section

    abbrev rows : List (Row K)
    rows = tables.rows section

    tests : AllByRecursion (λ test. test ≡ true)
        (once tables section (opener tables section)
        ∷ differ (map (λ (row : Row K). row.keyword) rows)
        ∷ list_all (λ later. not (is_some (row_of rows (opener tables later)))) (following_sections tables section)
        ∷ (not (ends_document tables section) || is_empty (following_sections tables section))
        ∷ if_there (λ last. each (ends_well tables section last ∷ not (repeats shape.again) ∷ [])) shape.last
        ∷ if_there (may_enter tables section) shape.inner ∷ [])
    tests = all_are
        (once tables section (opener tables section)
        ∷ differ (map (λ (row : Row K). row.keyword) rows)
        ∷ list_all (λ later. not (is_some (row_of rows (opener tables later)))) (following_sections tables section)
        ∷ (not (ends_document tables section) || is_empty (following_sections tables section))
        ∷ if_there (λ last. each (ends_well tables section last ∷ not (repeats shape.again) ∷ [])) shape.last
        ∷ if_there (may_enter tables section) shape.inner ∷ [])
        (pass.each section)

    ends_last : ends_document tables section ≡ true → following_sections tables section ≡ []
    ends_last ends =
        none_is (following_sections tables section)
        (not_or (ends_document tables section) (is_empty (following_sections tables section)) tests.1.1.1.0 ends)

    may : (inside : S) → shape.inner ≡ Some inside → may_enter tables section inside ≡ true
    may inside e =
        ap (λ (o : Option S). if_there (may_enter tables section) o) (sym e) ∙ tests.1.1.1.1.1.0

    inner : (inside : S) → shape.inner ≡ Some inside → IsInner tables inside
    inner inside e =
        let few = λ (row : Row K). not (is_many row.count) in
        inner_is tables inside
        (all_are
        (is_there few (row_of rows (opener tables inside)) ∷ not (is_keyword shape.last (opener tables inside))
        ∷ is_inner tables inside ∷ []) (may inside e)).1.1.0

    openers_apart : AllByRecursion (λ (later : S). row_of rows (opener tables later) ≡ None) (following_sections tables section)
    openers_apart =
        all_hold (λ later. not (is_some (row_of rows (opener tables later))))
        (λ later. row_of rows (opener tables later) ≡ None)
        (λ later no. no_one (row_of rows (opener tables later)) no) (following_sections tables section) tests.1.1.0

    entrance : (option : Option S) → if_there (may_enter tables section) option ≡ true
        → IfSome option (λ inside. IsRegarded tables section (opener tables inside))
        → IfSome option (λ inside. IsEntrance tables section inside)
    entrance None is regarded = tt
    entrance (Some inside) is regarded = entrance_is tables section inside is regarded

  sound : AreSound tables
  sound = record {
    others = pass.others;
    begins = pass.begins;
    apart = distinct (map (λ section. opener tables section) tables.sections) pass.apart;
    opener_once = λ section. stands_once tables section (opener tables section) (tests section).0;
    ends_last = λ section ends. ends_last section ends;
    inner = λ section inside e. inner section inside e;
  }

  pub are_clear : AreClear tables
  are_clear = record {
    sound = sound;
    first_stands = pass.first_stands;
    rows_apart = λ section.
        are_found (rows section) (distinct (map (λ (row : Row K). row.keyword) (rows section)) (tests section).1.0);
    openers_apart = λ section. openers_apart section;
    regarded = λ section. pass.regarded section;
    ends = λ section. holds_there
        (λ last. each (ends_well tables section last ∷ not (repeats (shape section).again) ∷ []))
        (λ last. IsEnd tables section last) (λ last is. end_is tables section last is) (shape section).last
        (tests section).1.1.1.1.0;
    entrance = λ section. entrance section (shape section).inner (tests section).1.1.1.1.1.0 (pass.entered section);
  }
