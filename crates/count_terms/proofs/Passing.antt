-- How many items of a list pass a test, by where they stand.
use Rattle.std.proofs.Common.{◌≡◌, ℕ, zero, suc, ◌+◌, ◌<◌, ◌≤◌, Bool, true, false, cond, List, [], ◌∷◌, length, get_or}
use Rattle.std.proofs.{Common.{ap, arith}, lemmas.List.{Sorted.sum_by-IsPermutation, Sums.sum_by-cons}}
use Rattle.std.specs.List.{count_by, Sorted.IsPermutation}

-- the count does not hang on the order
pub count-permutation : {X : Type 0} (p : X → Bool) (xs ys : List X) → IsPermutation xs ys
    → count_by p ys ≡ count_by p xs
count-permutation p xs ys same = sum_by-IsPermutation (λ x. cond (p x) 1 0) xs ys same

abbrev pub one_if : Bool → ℕ
one_if b = cond b 1 0

-- one more item
pub more : {X : Type 0} (p : X → Bool) (x : X) (xs : List X) → count_by p (x ∷ xs) ≡ one_if (p x) + count_by p xs
more p x xs = sum_by-cons (λ y. cond (p y) 1 0) x xs

pub one_at_most : (b : Bool) → one_if b ≤ 1
one_at_most true = omega arith
one_at_most false = omega arith

-- where none passes from a place on, at most that many pass
pub count_low : {X : Type 0} (p : X → Bool) (xs : List X) (n : ℕ)
    → ((j : ℕ) (d : X) → n ≤ j → j < length xs → p (get_or xs j d) ≡ false) → count_by p xs ≤ n
count_low p [] n none = omega arith
count_low p (x ∷ xs) zero none =
    let rest = count_low p xs zero (λ j d from lt. none (suc j) d (omega arith) (omega arith)) in
    let first : one_if (p x) ≡ 0 = ap one_if (none zero x (omega arith) (omega arith)) in
    omega (arith, more p x xs, first, rest)
count_low p (x ∷ xs) (suc n) none =
    let rest = count_low p xs n (λ j d from lt. none (suc j) d (omega arith) (omega arith)) in
    omega (arith, more p x xs, one_at_most (p x), rest)

-- where all pass before a place, at least that many pass
pub count_high : {X : Type 0} (p : X → Bool) (xs : List X) (n : ℕ) → n ≤ length xs
    → ((j : ℕ) (d : X) → j < n → p (get_or xs j d) ≡ true) → n ≤ count_by p xs
count_high p xs zero within all = omega arith
count_high p [] (suc n) within all = absurd (omega arith)
count_high p (x ∷ xs) (suc n) within all =
    let rest = count_high p xs n (omega arith) (λ j d lt. all (suc j) d (omega arith)) in
    let first : one_if (p x) ≡ 1 = ap one_if (all zero x (omega arith)) in
    omega (arith, more p x xs, first, rest)
