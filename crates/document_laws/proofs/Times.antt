-- How often items stand, and the rows that lack theirs.
use Rattle.std.proofs.Common.{◌≡◌, ℕ, ◌+◌, ◌≤◌, Bool, true, false, List, [], ◌∷◌, ◌++◌, Some, None, refl, sym, ap, ◌∙◌}
use Rattle.std.{proofs.{Common.{arith, subst}, lemmas.List.Sums.{sum_by-append, sum_by-cons}}, specs.Prelude.cond}
use Rattle.std.specs.{Prelude.{◌||◌, if◌then◌else◌}, List.find}
use Rattle.frame_terms.specs.declared.{document.Taken.Taken, keyword.Keyword.Keyword, row.Count.Count}
use Rattle.frame_terms.specs.{declared.row.{Count.TheVariants.{One, Optional, Many}, Row.Row}, Keywords.same}
use Rattle.frame_terms.specs.{Rows.{is_many, is_one}, Sections.{keyword_if, row_of, stands}}
use Rattle.frame_laws.proofs.KnownWords.{same-sym, same-through}
use Rattle.document_laws.specs.Counts.{IsCount, times}

-- ---- how often

-- one item stands once or not at all
abbrev pub once : Bool → ℕ
once test = cond test 1 0

module _ {V : Type 0} where
  pub times-first : (keyword : Keyword) (one : Taken V) (taken : List (Taken V))
      → times keyword (one ∷ taken) ≡ once (same one.keyword keyword) + times keyword taken
  times-first keyword one taken =
      sum_by-cons (λ (other : Taken V). once (same other.keyword keyword)) one taken

  -- those of two lists
  pub times-append : (keyword : Keyword) (front back : List (Taken V))
      → times keyword (front ++ back) ≡ times keyword front + times keyword back
  times-append keyword front back =
      sum_by-append (λ (other : Taken V). once (same other.keyword keyword)) front back

  -- with one item more
  pub times-more : (keyword : Keyword) (taken : List (Taken V)) (one : Taken V)
      → times keyword (taken ++ one ∷ []) ≡ times keyword taken + once (same one.keyword keyword)
  times-more keyword taken one =
      times-append keyword taken (one ∷ [])
      ∙ ap (λ (n : ℕ). times keyword taken + n) (times-first keyword one [] ∙ last (same one.keyword keyword))
    where
      last : (test : Bool) → once test + 0 ≡ once test
      last test = omega arith

  -- keywords that are one stand as often
  pub times-same : (a b : Keyword) (taken : List (Taken V)) → same a b ≡ true → times a taken ≡ times b taken
  times-same a b [] is = refl
  times-same a b (one ∷ taken) is =
      let alike : same one.keyword a ≡ same one.keyword b =
      same-sym one.keyword a ∙ same-through a b one.keyword is ∙ same-sym b one.keyword in
      times-first a one taken
      ∙ ap (λ (t : Bool). once t + times a taken) alike
      ∙ ap (λ (n : ℕ). once (same one.keyword b) + n) (times-same a b taken is)
      ∙ sym (times-first b one taken)

  -- where none stands it stands no time
  pub none_stands : (keyword : Keyword) (taken : List (Taken V)) → stands keyword taken ≡ false → times keyword taken ≡ 0
  none_stands keyword [] no_ = refl
  none_stands keyword (one ∷ taken) no_ =
      times-first keyword one taken
      ∙ by_test (same one.keyword keyword) no_ (none_stands keyword taken)
    where
      by_test : (test : Bool) → (test || stands keyword taken) ≡ false
          → (stands keyword taken ≡ false → times keyword taken ≡ 0) → once test + times keyword taken ≡ 0
      by_test true e others = absurd (cc (e))
      by_test false e others = let zero_ = others e in omega (arith, zero_)

  -- where one stands it stands
  pub some_stands : (keyword : Keyword) (taken : List (Taken V)) → stands keyword taken ≡ true
      → 1 ≤ times keyword taken
  some_stands keyword [] is = absurd (cc (is))
  some_stands keyword (one ∷ taken) is =
      subst (λ (n : ℕ). 1 ≤ n) (sym (times-first keyword one taken))
      (by_test (same one.keyword keyword) is (some_stands keyword taken))
    where
      by_test : (test : Bool) → (test || stands keyword taken) ≡ true
          → (stands keyword taken ≡ true → 1 ≤ times keyword taken) → 1 ≤ once test + times keyword taken
      by_test true e others = omega arith
      by_test false e others = let some = others e in omega (arith, some)

-- ---- what no row is

module _ {K : Type 0} where
  -- a test that no row passes is not passed by the row of a keyword
  pub row_fails : (test : Row K → Bool) (rows : List (Row K)) (keyword : Keyword) (row : Row K)
      → keyword_if (find test rows) ≡ None → row_of rows keyword ≡ Some row → test row ≡ false
  row_fails test [] keyword row none e = absurd (cc (e))
  row_fails test (other ∷ rows) keyword row none e =
      by_tests (test other) (same other.keyword keyword) refl none e
      (λ rest. row_fails test rows keyword row rest)
    where
      by_tests : (passes is_it : Bool) → test other ≡ passes
          → keyword_if (if passes then Some other else find test rows) ≡ None
          → (if is_it then Some other else row_of rows keyword) ≡ Some row
          → (keyword_if (find test rows) ≡ None → row_of rows keyword ≡ Some row → test row ≡ false)
          → test row ≡ false
      by_tests true is_it p none e others = absurd (cc (none))
      by_tests false true p none e others = cc (p, e)
      by_tests false false p none e others = others none e

-- a number is as a row asks for
pub is_count : (count : Count) (number : ℕ) → (is_one count ≡ true → 1 ≤ number) → (is_many count ≡ false → number ≤ 1)
    → IsCount count number
is_count One number some few = let a = some refl in let b = few refl in omega (arith, a, b)
is_count Optional number some few = few refl
is_count Many number some few = tt

-- a row that counts 1 is there once, and one that is not many at most once
pub one_of : (count : Count) (number : ℕ) → IsCount count number → is_one count ≡ true → number ≡ 1
one_of One number is e = is
one_of Optional number is e = absurd (cc (e))
one_of Many number is e = absurd (cc (e))

pub few_of : (count : Count) (number : ℕ) → IsCount count number → is_many count ≡ false → number ≤ 1
few_of One number is e = omega (arith, is)
few_of Optional number is e = is
few_of Many number is e = absurd (cc (e))
