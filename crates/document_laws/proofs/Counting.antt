-- In each section of a document each row's items stand as often as the row asks for.
use Rattle.std.proofs.Common.{◌≡◌, ℕ, ◌+◌, ◌≤◌, Bool, true, false, List, [], ◌∷◌, ◌++◌, Option, Some, None, refl, sym}
use Rattle.std.{proofs.{Common.{ap, ◌∙◌, arith, subst}, lemmas.List.Elements.{All-cons, All-nil}}, specs.Prelude.All}
use Rattle.std.specs.Prelude.{not, ◌&&◌}
use Rattle.item_terms.specs.{declared.fault.DocFault.DocFault, Items.Item}
use Rattle.frame_terms.specs.declared.{document.{Group.Group, Open.Open, Taken.Taken}, keyword.Keyword.Keyword}
use Rattle.frame_terms.specs.{declared.row.Row.Row, Documents.{Document, group}, Keywords.same}
use Rattle.frame_terms.specs.{Order.{following_sections, must_open}, Rows.{is_many, is_one}, Sections.lacking_keyword}
use Rattle.frame_terms.specs.{Sections.{row_of, stands}, Tables.Tables}
use Rattle.frame_laws.proofs.KnownWords.{same-sym, same-through}
use Rattle.document_laws.{specs.Counts.{RowsStand, RowsStandAsOften, times}, proofs.{Makes.neither, Openers.row_of-one}}
use Rattle.document_laws.proofs.{Openers.row_of-same, Rules.{Rules, holds}, Times.{is_count, none_stands, once}}
use Rattle.document_laws.proofs.{Times.{row_fails, some_stands, times-more, times-same}, Ways.{IsAccepted, IsEnding}}

module _ {K : Type 0} where
  -- whether a row that is there counts many
  abbrev many_if : Option (Row K) → Bool
  many_if None = false
  many_if (Some row) = is_many row.count

module _ {S K V X : Type 0} (tables : Tables S K V X) where
  -- no item stands twice that may not
  abbrev AreFew : S → List (Taken V) → Type 0
  AreFew section taken =
      (keyword : Keyword) (row : Row K) → row_of (tables.rows section) keyword ≡ Some row → is_many row.count ≡ false
      → times keyword taken ≤ 1

  -- each item stands that has to
  abbrev pub AreThere : S → List (Taken V) → Type 0
  AreThere section taken =
      (keyword : Keyword) (row : Row K) → row_of (tables.rows section) keyword ≡ Some row → is_one row.count ≡ true
      → 1 ≤ times keyword taken

  rows_stand : (section : S) (taken : List (Taken V)) → AreFew section taken → AreThere section taken
      → RowsStand tables section taken
  rows_stand section taken few there keyword row e =
      is_count row.count (times keyword taken) (there keyword row e) (few keyword row e)

  -- ---- at most once

  -- one item alone stands once at most
  few_one : (section : S) (one : Taken V) → AreFew section (one ∷ [])
  few_one section one keyword row e no_ =
      subst (λ (n : ℕ). n ≤ 1) (sym (times-more keyword [] one)) (at_most (same one.keyword keyword))
    where
      at_most : (test : Bool) → times {V = V} keyword [] + once test ≤ 1
      at_most true = omega arith
      at_most false = omega arith

  -- a row of which an item is accepted, and not many: none stood before
  none_before : (across : X) (section : S) (taken : List (Taken V)) (item : Item) (one : Taken V) (keyword : Keyword)
      (row : Row K) → IsAccepted tables across section taken item one → row_of (tables.rows section) keyword ≡ Some row
      → is_many row.count ≡ false → same one.keyword keyword ≡ true → times keyword taken ≡ 0
  none_before across section taken item one keyword row accepted e few is =
      let t = accepted.taken in
      let named : one.keyword ≡ t.row.keyword = ap (λ (o : Taken V). o.keyword) t.stands in
      let is_row : same t.row.keyword keyword ≡ true = ap (λ (k : Keyword). same k keyword) (sym named) ∙ is in
      let words : same t.keyword keyword ≡ true =
      sym (same-through t.row.keyword t.keyword keyword (row_of-same (tables.rows section) t.keyword t.row t.has_row))
      ∙ is_row in
      let rows : Some t.row ≡ Some row = sym t.has_row ∙ row_of-one (tables.rows section) t.keyword keyword words ∙ e in
      let not_many : is_many t.row.count ≡ false = ap (λ (r : Option (Row K)). many_if r) rows ∙ few in
      let none : stands t.row.keyword taken ≡ false =
      ap (λ (m : Bool). not m && stands t.row.keyword taken) (sym not_many) ∙ accepted.once in
      sym (times-same t.row.keyword keyword taken is_row) ∙ none_stands t.row.keyword taken none

  -- with an item that is accepted
  few_more : (across : X) (section : S) (taken : List (Taken V)) (item : Item) (one : Taken V)
      → IsAccepted tables across section taken item one → AreFew section taken → AreFew section (taken ++ one ∷ [])
  few_more across section taken item one accepted few keyword row e no_ =
      subst (λ (n : ℕ). n ≤ 1) (sym (times-more keyword taken one))
      (by_test (same one.keyword keyword) refl (few keyword row e no_))
    where
      by_test : (test : Bool) → same one.keyword keyword ≡ test → times keyword taken ≤ 1
          → times keyword taken + once test ≤ 1
      by_test false is before = omega (arith, before)
      by_test true is before =
          let none = none_before across section taken item one keyword row accepted e no_ is in omega (arith, none)

  -- ---- once

  -- a section that lacks nothing
  pub there_all : (section : S) (taken : List (Taken V)) → lacking_keyword (tables.rows section) taken ≡ None
      → AreThere section taken
  there_all section taken none keyword row e has_to =
      let test : Row K → Bool = λ row. is_one row.count && not (stands row.keyword taken) in
      let fails : (is_one row.count && not (stands row.keyword taken)) ≡ false =
      row_fails test (tables.rows section) keyword row none e in
      subst (λ (n : ℕ). 1 ≤ n) (times-same row.keyword keyword taken (row_of-same (tables.rows section) keyword row e))
      (some_stands row.keyword taken (by_tests (is_one row.count) (stands row.keyword taken) has_to fails))
    where
      by_tests : (must is : Bool) → must ≡ true → (must && not is) ≡ false → is ≡ true
      by_tests true true h e = refl
      by_tests true false h e = absurd (cc (e))
      by_tests false is h e = absurd (cc (h))

  -- a section that lacks nothing but its last item, with that
  there_last : (across : X) (section : S) (taken : List (Taken V)) (item : Item) (one : Taken V)
      → IsEnding tables across section taken item one → AreThere section (taken ++ one ∷ [])
  there_last across section taken item one ending keyword row e has_to =
      let test : Row K → Bool =
      λ row. is_one row.count && not (same row.keyword one.keyword) && not (stands row.keyword taken) in
      let fails : (is_one row.count && not (same row.keyword one.keyword) && not (stands row.keyword taken)) ≡ false =
      row_fails test (tables.rows section) keyword row ending.whole e in
      subst (λ (n : ℕ). 1 ≤ n)
      (times-same row.keyword keyword (taken ++ one ∷ []) (row_of-same (tables.rows section) keyword row e))
      (subst (λ (n : ℕ). 1 ≤ n) (sym (times-more row.keyword taken one))
      (by_tests (is_one row.count) (same row.keyword one.keyword) (stands row.keyword taken) refl
      (same-sym one.keyword row.keyword) has_to fails (some_stands row.keyword taken)))
    where
      by_tests : (must last is : Bool) → stands row.keyword taken ≡ is → same one.keyword row.keyword ≡ last
          → must ≡ true → (must && not last && not is) ≡ false
          → (stands row.keyword taken ≡ true → 1 ≤ times row.keyword taken)
          → 1 ≤ times row.keyword taken + once (same one.keyword row.keyword)
      by_tests false last is s l h e some = absurd (cc (h))
      by_tests true true is s l h e some =
          subst (λ (t : Bool). 1 ≤ times row.keyword taken + once t) (sym l) (omega arith)
      by_tests true false true s l h e some = let there = some s in omega (arith, there)
      by_tests true false false s l h e some = absurd (cc (e))

  -- ---- the sections

  abbrev AroundFew : Option (Group S V) → Type 0
  AroundFew None = Unit {0}
  AroundFew (Some outer) = AreFew outer.section outer.taken

  record IsFew (open_ : Open S V) : Type 0 where
    pub here : AreFew open_.section open_.taken
    pub around : AroundFew open_.around

  abbrev Stand : List (Group S V) → Type 0
  Stand groups = All (λ (group : Group S V). RowsStand tables group.section group.taken) groups

  abbrev Rest : X → Open S V → List Item → Document S V → Type 0
  Rest across open_ items document = IsFew open_ → Stand document.groups

  -- a section in front of others, and one alone
  in_front : (section : S) (taken : List (Taken V)) (groups : List (Group S V)) → RowsStand tables section taken
      → Stand groups → Stand (group section taken ∷ groups)
  in_front section taken groups is others =
      All-cons (λ (group : Group S V). RowsStand tables group.section group.taken) (group section taken) groups is others

  in_alone : (section : S) (taken : List (Taken V)) → RowsStand tables section taken → Stand (group section taken ∷ [])
  in_alone section taken is =
      in_front section taken [] is (All-nil (λ (group : Group S V). RowsStand tables group.section group.taken))

  -- a section that ends before an item, and one that ends with it
  whole_rows : (section : S) (taken : List (Taken V)) → AreFew section taken
      → lacking_keyword (tables.rows section) taken ≡ None → RowsStand tables section taken
  whole_rows section taken few none = rows_stand section taken few (there_all section taken none)

  ended_rows : (across : X) (section : S) (taken : List (Taken V)) (item : Item) (one : Taken V)
      → AreFew section taken → IsEnding tables across section taken item one
      → RowsStand tables section (taken ++ one ∷ [])
  ended_rows across section taken item one few ending =
      rows_stand section (taken ++ one ∷ []) (few_more across section taken item one ending.accepted few)
      (there_last across section taken item one ending)

  counts_stand : (length : ℕ) (fault : Option DocFault) → Rules tables length fault Rest
  counts_stand length fault = record {
    closes = λ across section taken around missing no_fault is.
        in_alone section taken (whole_rows section taken is.here
        (neither (lacking_keyword (tables.rows section) taken) (must_open tables (following_sections tables section)) missing).0);
    passes = λ across open_ item items document may rest is. rest is;
    starts = λ across next item items document one may note rest is.
        rest (record { here = few_one tables.first one; around = tt });
    adds = λ across next section first taken around item items document one may note rest is.
        rest (record {
          here = few_more across section (first ∷ taken) item one may.accepted is.here;
          around = is.around;
        });
    opens = λ across next section first taken around other item items document one may note rest is.
        in_front section (first ∷ taken) document.groups (whole_rows section (first ∷ taken) is.here may.whole)
        (rest (record { here = few_one other one; around = is.around }));
    enters = λ across next section first taken around inside item items document one may note rest is.
        rest (record {
          here = few_one inside one;
          around = few_more across section (first ∷ taken) item one may.added.accepted is.here;
        });
    leaves = λ across next section first taken outer item items document one may note rest is.
        in_front section (first ∷ (taken ++ one ∷ [])) document.groups
        (ended_rows across section (first ∷ taken) item one is.here may)
        (rest (record { here = is.around; around = tt }));
    ends = λ across next section first taken item items one may note is.
        in_alone section (first ∷ (taken ++ one ∷ []))
        (ended_rows across section (first ∷ taken) item one is.here may);
    stops = λ across section first taken around item items may is.
        in_alone section (first ∷ taken) (whole_rows section (first ∷ taken) is.here may.whole);
  }

  -- nothing stands at the start
  few_none : (section : S) → AreFew section []
  few_none section keyword row e no_ = omega arith

  pub stand_as_often : RowsStandAsOften tables
  stand_as_often length contents document e =
      holds tables length Rest contents (counts_stand length contents.fault) document e
      (record { here = few_none tables.first; around = tt })
