-- The numbers from 0 to 63 that pass a test.
use Rattle.std.proofs.Common.{◌≡◌, ℕ, zero, suc, ◌+◌, ◌-◌, ◌<◌, ◌≤◌, Bool, true, false, cond, List, [], ◌∷◌, refl, sym}
use Rattle.std.{proofs.{Common.{ap, ◌∙◌, arith, ⊎_elim}, lemmas.Bool.{eq-eqb, ne_eqb, cases_order}}, specs.Prelude.◌==◌}
use Rattle.std.specs.{Prelude.{filter, ◌||◌, bit_or}, List.range_with_len}
use Rattle.list_values.specs.{Masks.{is_set, numbers_of}, NumberSets.{numbers_from, numbers_that, has_number}}
use Rattle.list_values.{specs.NumberSets.united_numbers, proofs.Bits.{set_either, set_none}}

-- the numbers from one on begin with it
pub from_step : (number : ℕ) → number < 64 → numbers_from number ≡ number ∷ numbers_from (number + 1)
unfolding numbers_from
from_step number lt =
    let one : 64 - number ≡ suc (64 - (number + 1)) = omega (arith, lt) in
    ap (range_with_len number) one

-- none is past 63
pub from_end : numbers_from 64 ≡ []
unfolding numbers_from
from_end = refl

-- one more number that is looked at
pub filter_step : (test : ℕ → Bool) (number : ℕ) → number < 64
    → filter test (numbers_from number) ≡ cond (test number) (number ∷ filter test (numbers_from (number + 1))) (filter test (numbers_from (number + 1)))
filter_step test number lt = ap (filter test) (from_step number lt)

-- the same, from the number behind it
pub filter_before : (test : ℕ → Bool) (number : ℕ) → 0 < number → number ≤ 64
    → filter test (numbers_from (number - 1)) ≡ cond (test (number - 1)) ((number - 1) ∷ filter test (numbers_from number)) (filter test (numbers_from number))
filter_before test number some le =
    let next : number - 1 + 1 ≡ number = omega (arith, some) in
    filter_step test (number - 1) (omega (arith, some, le))
    ∙ ap (λ (n : ℕ). cond (test (number - 1)) ((number - 1) ∷ filter test (numbers_from n)) (filter test (numbers_from n))) next

same_along : (p q : ℕ → Bool) (first count : ℕ) → first + count ≤ 64 → ((n : ℕ) → n < 64 → p n ≡ q n)
    → filter p (range_with_len first count) ≡ filter q (range_with_len first count)
same_along p q first zero le same = refl
same_along p q first (suc count) le same =
    let is : p first ≡ q first = same first (omega (arith, le)) in
    let later = same_along p q (first + 1) count (omega (arith, le)) same in
    ap (λ (b : Bool). cond b (first ∷ filter p (range_with_len (first + 1) count)) (filter p (range_with_len (first + 1) count))) is
    ∙ ap (λ (l : List ℕ). cond (q first) (first ∷ l) l) later

-- tests that answer the same of each number keep the same numbers
pub same_numbers : (p q : ℕ → Bool) → ((n : ℕ) → n < 64 → p n ≡ q n) → numbers_that p ≡ numbers_that q
unfolding numbers_from
same_numbers p q same = same_along p q 0 64 (omega arith) same

not_below : (p : ℕ → Bool) (first count n : ℕ) → n < first → has_number (filter p (range_with_len first count)) n ≡ false
not_below p first zero n lt = refl
not_below p first (suc count) n lt =
    let later = not_below p (first + 1) count n (omega (arith, lt)) in
    let other : (first == n) ≡ false = ne_eqb first n (λ is. absurd (omega (arith, is, lt))) in
    by (p first) later other
  where
    by : (b : Bool) → has_number (filter p (range_with_len (first + 1) count)) n ≡ false → (first == n) ≡ false
        → has_number (cond b (first ∷ filter p (range_with_len (first + 1) count)) (filter p (range_with_len (first + 1) count))) n ≡ false
    by true later other = rw other later
    by false later other = later

not_above : (p : ℕ → Bool) (first count n : ℕ) → first + count ≤ n → has_number (filter p (range_with_len first count)) n ≡ false
not_above p first zero n le = refl
not_above p first (suc count) n le =
    let later = not_above p (first + 1) count n (omega (arith, le)) in
    let other : (first == n) ≡ false = ne_eqb first n (λ is. absurd (omega (arith, is, le))) in
    by (p first) later other
  where
    by : (b : Bool) → has_number (filter p (range_with_len (first + 1) count)) n ≡ false → (first == n) ≡ false
        → has_number (cond b (first ∷ filter p (range_with_len (first + 1) count)) (filter p (range_with_len (first + 1) count))) n ≡ false
    by true later other = rw other later
    by false later other = later

within : (p : ℕ → Bool) (first count n : ℕ) → first ≤ n → n < first + count
    → has_number (filter p (range_with_len first count)) n ≡ p n
within p first zero n from to = absurd (omega (arith, from, to))
within p first (suc count) n from to =
    let rest = filter p (range_with_len (first + 1) count) in
    let here : first ≡ n → has_number (cond (p first) (first ∷ rest) rest) n ≡ p n = λ is.
    let same : (first == n) ≡ true = eq-eqb first n is in
    let below : has_number rest n ≡ false = not_below p (first + 1) count n (omega (arith, is)) in
    at_first (p first) same below ∙ ap p is in
    let there : first < n → has_number (cond (p first) (first ∷ rest) rest) n ≡ p n = λ lt.
    let other : (first == n) ≡ false = ne_eqb first n (λ is. absurd (omega (arith, is, lt))) in
    further (p first) other ∙ within p (first + 1) count n (omega (arith, lt)) (omega (arith, to)) in
    ⊎_elim here (⊎_elim there (λ gt. absurd (omega (arith, gt, from)))) (cases_order first n)
  where
    at_first : (b : Bool) → (first == n) ≡ true → has_number (filter p (range_with_len (first + 1) count)) n ≡ false
        → has_number (cond b (first ∷ filter p (range_with_len (first + 1) count)) (filter p (range_with_len (first + 1) count))) n ≡ b
    at_first true same below = rw same refl
    at_first false same below = below

    further : (b : Bool) → (first == n) ≡ false
        → has_number (cond b (first ∷ filter p (range_with_len (first + 1) count)) (filter p (range_with_len (first + 1) count))) n
        ≡ has_number (filter p (range_with_len (first + 1) count)) n
    further true other = rw other refl
    further false other = refl

-- a number is among those that pass where it passes
pub has_those : (p : ℕ → Bool) (n : ℕ) → n < 64 → has_number (numbers_that p) n ≡ p n
unfolding numbers_from
has_those p n lt = within p 0 64 n (omega arith) (omega (arith, lt))

-- no other number is among them
pub has_no_more : (p : ℕ → Bool) (n : ℕ) → 64 ≤ n → has_number (numbers_that p) n ≡ false
unfolding numbers_from
has_no_more p n le = not_above p 0 64 n (omega (arith, le))

-- the numbers of both masks
pub united_masks : (a b : ℕ) → numbers_of (bit_or a b) ≡ united_numbers (numbers_of a) (numbers_of b)
united_masks a b = same_numbers (is_set (bit_or a b)) (λ n. has_number (numbers_of a) n || has_number (numbers_of b) n)
    (λ n lt. set_either a b n
    ∙ ap (λ (t : Bool). t || is_set b n) (sym (has_those (is_set a) n lt))
    ∙ ap (λ (t : Bool). has_number (numbers_of a) n || t) (sym (has_those (is_set b) n lt)))

none_along : (first count : ℕ) → filter (λ n. false) (range_with_len first count) ≡ []
none_along first zero = refl
none_along first (suc count) = none_along (first + 1) count

-- 0 has no numbers
pub no_numbers : numbers_of 0 ≡ []
unfolding numbers_from
no_numbers = same_numbers (is_set 0) (λ n. false) (λ n lt. set_none n) ∙ none_along 0 64
