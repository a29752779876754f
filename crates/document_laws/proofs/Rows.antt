-- What the rows of a section say of an item that stands among those of the section.
use Rattle.std.proofs.Common.{◌≡◌, ℕ, ◌+◌, ◌≤◌, Bool, true, false, List, [], ◌∷◌, ◌++◌, Option, Some, None, Result, Ok}
use Rattle.std.{proofs.Common.{Err, refl, sym, ap, subst, ◌∙◌, arith}, specs.Prelude.{not, ◌&&◌, if◌then◌else◌}}
use Rattle.std.specs.List.{AllByRecursion, find}
use Rattle.item_terms.specs.Items.{Item}
use Rattle.frame_terms.specs.declared.{document.Taken.Taken, fault.FrameFault.FrameFault}
use Rattle.frame_terms.specs.declared.fault.{FrameReason.TheVariants.Twice, ReadRefusal.ReadRefusal}
use Rattle.frame_terms.specs.{declared.{keyword.Keyword.Keyword, row.{Count.Count, Row.Row}}, Keywords.same}
use Rattle.frame_terms.specs.{Order.opener, Refusals.refusal_at, Rows.{is_many, is_one}, Sections.{accept, keyword_if}}
use Rattle.frame_terms.specs.{Sections.{lacking_keyword, lacking_but, row_of, stands, taken_as}, Tables.Tables}
use Rattle.frame_laws.proofs.KnownWords.{same-refl, same-sym}
use Rattle.document_laws.specs.{Counts.{IsCount, RowsStand, times}, Items.IsItemOf, Sound.StandsOnce}
use Rattle.document_laws.proofs.{Openers.row_of-same, Times.{few_of, none_stands, once, one_of, some_stands}}
use Rattle.document_laws.proofs.Times.{times-append, times-first, times-more, times-same}

too_many : (a b c n m : ℕ) → 1 ≤ a → m ≤ 1 → n ≡ m → n ≡ a + (b + c) → b ≡ 1 → ⊥
too_many a b c n m some few alike sum counted = omega (arith, some, few, alike, sum, counted)

too_few : (a b n : ℕ) → n ≡ 1 → n ≡ a + b → a ≡ 0 → b ≡ 0 → ⊥
too_few a b n is sum none no_ = omega (arith, is, sum, none, no_)

none_of : (a n : ℕ) → n ≡ 1 → n ≡ a → a ≡ 0 → ⊥
none_of a n is sum none = omega (arith, is, sum, none)

two : (a b p q c n : ℕ) → n ≡ 1 → n ≡ a + (p + b) → a ≡ q + c → p ≡ 1 → q ≡ 1 → ⊥
two a b p q c n is sum front one other = omega (arith, is, sum, front, one, other)

module _ {S K V X : Type 0} (tables : Tables S K V X) (section : S) where
  -- ---- an item

  -- it has the keyword of its row
  pub named : (across : X) (item : Item) (one : Taken V) (said : IsItemOf tables across section item one)
      → one.keyword ≡ said.row.keyword
  named across item one said = ap (λ (o : Taken V). o.keyword) said.stands

  -- it is accepted where its row may take it
  pub accepted : (across : X) (taken : List (Taken V)) (item : Item) (one : Taken V)
      (said : IsItemOf tables across section item one)
      → (not (is_many said.row.count) && stands said.row.keyword taken) ≡ false
      → accept tables across said.row taken item ≡ Ok one
  accepted across taken item one said new =
      let twice : Result (Taken V) ReadRefusal = Err (refusal_at item.place (Twice said.row.keyword)) in
      ap (λ (t : Bool). if t then twice else taken_as said.row.keyword item (tables.value_of across said.row.kind item)) new
      ∙ ap (λ (v : Result V FrameFault). taken_as said.row.keyword item v) said.says
      ∙ ap as_ok (sym said.stands)
    where
      as_ok : Taken V → Result (Taken V) ReadRefusal
      as_ok taken = Ok taken

  -- ---- by the counts

  -- an item that is not many stands not before itself
  pub is_new : (across : X) (item : Item) (one : Taken V) (said : IsItemOf tables across section item one)
      (before rest total : List (Taken V)) → RowsStand tables section total → total ≡ before ++ one ∷ rest
      → (not (is_many said.row.count) && stands said.row.keyword before) ≡ false
  is_new across item one said before rest total counts parts =
      by_tests (is_many said.row.count) (stands said.row.keyword before) refl refl
    where
      by_tests : (many there : Bool) → is_many said.row.count ≡ many → stands said.row.keyword before ≡ there
          → (not many && there) ≡ false
      by_tests true there m t = refl
      by_tests false false m t = refl
      by_tests false true m t =
          let k = said.row.keyword in
          let some : 1 ≤ times k before = some_stands k before t in
          let is_one : same one.keyword k ≡ true =
          ap (λ (w : Keyword). same w k) (named across item one said) ∙ same-refl k in
          let few : times said.keyword total ≤ 1 =
          few_of said.row.count (times said.keyword total) (counts said.keyword said.row said.has_row) m in
          let alike : times k total ≡ times said.keyword total =
          times-same k said.keyword total (row_of-same (tables.rows section) said.keyword said.row said.has_row) in
          let sum : times k total ≡ times k before + (once (same one.keyword k) + times k rest) =
          ap (λ (l : List (Taken V)). times k l) parts ∙ times-append k before (one ∷ rest)
          ∙ ap (λ (n : ℕ). times k before + n) (times-first k one rest) in
          let counted : once (same one.keyword k) ≡ 1 = ap once is_one in
          absurd (too_many (times k before) (once (same one.keyword k)) (times k rest) (times k total)
          (times said.keyword total)
          some few alike sum counted)

  -- an opener stands once, so that no later item is one
  pub not_opener : StandsOnce tables section (opener tables section) → (first : Taken V) (taken : List (Taken V))
      (one : Taken V) (rest total : List (Taken V)) → RowsStand tables section total
      → same (opener tables section) first.keyword ≡ true → total ≡ (first ∷ taken) ++ one ∷ rest
      → same (opener tables section) one.keyword ≡ false
  not_opener stands_once first taken one rest total counts opens parts =
      by_test (same (opener tables section) one.keyword) refl
    where
      by_test : (test : Bool) → same (opener tables section) one.keyword ≡ test
          → same (opener tables section) one.keyword ≡ false
      by_test false is = is
      by_test true is =
          let k = opener tables section in
          let number : times k total ≡ 1 =
          subst (λ (c : Count). IsCount c (times k total)) stands_once.once
          (counts k stands_once.row stands_once.has_row) in
          let sum : times k total ≡ times k (first ∷ taken) + (once (same one.keyword k) + times k rest) =
          ap (λ (l : List (Taken V)). times k l) parts ∙ times-append k (first ∷ taken) (one ∷ rest)
          ∙ ap (λ (n : ℕ). times k (first ∷ taken) + n) (times-first k one rest) in
          absurd (two (times k (first ∷ taken)) (times k rest) (once (same one.keyword k)) (once (same first.keyword k))
          (times k taken) (times k total) number sum (times-first k first taken)
          (ap once (same-sym one.keyword k ∙ is)) (ap once (same-sym first.keyword k ∙ opens)))

  -- ---- what lacks

  -- whether a row, but that of a last item, lacks its item before that
  abbrev lacks_so : Taken V → List (Taken V) → Row K → Bool
  lacks_so one before row =
      is_one row.count && not (same row.keyword one.keyword) && not (stands row.keyword before)

  -- all rows but that of the last item stand before it
  pub none_lacks : AllByRecursion (λ (row : Row K). row_of (tables.rows section) row.keyword ≡ Some row)
      (tables.rows section) → (one : Taken V) (before total : List (Taken V)) → RowsStand tables section total
      → total ≡ before ++ one ∷ [] → lacking_but (tables.rows section) one.keyword before ≡ None
  none_lacks apart one before total counts parts = ap (λ (r : Option (Row K)). keyword_if r) (in_rows _ apart)
    where
      fails : (row : Row K) → row_of (tables.rows section) row.keyword ≡ Some row
          → (is_one row.count && not (same row.keyword one.keyword) && not (stands row.keyword before)) ≡ false
      fails row there =
          by_tests (is_one row.count) (same row.keyword one.keyword) (stands row.keyword before) refl refl refl
        where
          by_tests : (must last is : Bool) → is_one row.count ≡ must → same row.keyword one.keyword ≡ last
              → stands row.keyword before ≡ is → (must && not last && not is) ≡ false
          by_tests false last is m l s = refl
          by_tests true true is m l s = refl
          by_tests true false true m l s = refl
          by_tests true false false m l s =
              absurd (too_few (times row.keyword before) (once (same one.keyword row.keyword)) (times row.keyword total)
              (one_of row.count (times row.keyword total) (counts row.keyword row there) m)
              (ap (λ (t : List (Taken V)). times row.keyword t) parts ∙ times-more row.keyword before one)
              (none_stands row.keyword before s)
              (ap once (same-sym one.keyword row.keyword ∙ l)))

      in_rows : (rows : List (Row K))
          → AllByRecursion (λ (row : Row K). row_of (tables.rows section) row.keyword ≡ Some row) rows
          → find (λ (row : Row K). lacks_so one before row) rows ≡ None
      in_rows [] each = refl
      in_rows (row ∷ rows) each =
          ap (λ (t : Bool). if t then Some row else find (λ (row : Row K). lacks_so one before row) rows)
          (fails row each.0)
          ∙ in_rows rows each.1

  -- whether a row lacks its item
  abbrev lacks_all : List (Taken V) → Row K → Bool
  lacks_all taken row = is_one row.count && not (stands row.keyword taken)

  -- all rows stand
  pub whole : AllByRecursion (λ (row : Row K). row_of (tables.rows section) row.keyword ≡ Some row)
      (tables.rows section) → (total : List (Taken V)) → RowsStand tables section total
      → lacking_keyword (tables.rows section) total ≡ None
  whole apart total counts = ap (λ (r : Option (Row K)). keyword_if r) (in_rows _ apart)
    where
      fails : (row : Row K) → row_of (tables.rows section) row.keyword ≡ Some row
          → (is_one row.count && not (stands row.keyword total)) ≡ false
      fails row there = by_tests (is_one row.count) (stands row.keyword total) refl refl
        where
          by_tests : (must is : Bool) → is_one row.count ≡ must → stands row.keyword total ≡ is
              → (must && not is) ≡ false
          by_tests false is m s = refl
          by_tests true true m s = refl
          by_tests true false m s =
              absurd (none_of (times row.keyword total) (times row.keyword total)
              (one_of row.count (times row.keyword total) (counts row.keyword row there) m) refl
              (none_stands row.keyword total s))

      in_rows : (rows : List (Row K))
          → AllByRecursion (λ (row : Row K). row_of (tables.rows section) row.keyword ≡ Some row) rows
          → find (λ (row : Row K). lacks_all total row) rows ≡ None
      in_rows [] each = refl
      in_rows (row ∷ rows) each =
          ap (λ (t : Bool). if t then Some row else find (λ (row : Row K). lacks_all total row) rows)
          (fails row each.0)
          ∙ in_rows rows each.1
