-- The same of numbers, natural and whole ones.
use Rattle.std.proofs.Common.{◌≡◌, ℕ, ◌<◌, Bool, true, false, cond, List, length, get_or, refl, sym, ap, ◌∙◌, arith}
use Rattle.std.proofs.lemmas.{Bool.{le-leb, lt-leb}, Cmp.{nat_cmp_total, int_cmp_total, ranked, int_ranked, by_ranked}}
use Rattle.std.{proofs.lemmas.List.Sorted.length_permutation, specs.Prelude.{nat_le, nat_lt, ◌-◌, ◌/◌, ◌==◌, ◌&&◌}}
use Rattle.std.specs.{Prelude.{unwrap_or, ℤ}, List.{count_by, find, Sorted.{IsPermutation, IsSorted}}, Ordering.is_lt}
use Rattle.std.specs.{Ordering.{is_le, nat_cmp, int_cmp}, declared.cmp.Ordering.TheVariants.{Less, Equal, Greater}}
use Rattle.count_terms.specs.{Counts.{stands_at, member_at, middle, low_median}, Medians.{stands_by, low_median_by}}
use Rattle.count_terms.proofs.Ordered.{member_there_by}

nat_ties : (a b : ℕ) → nat_cmp a b ≡ Equal → a ≡ b
nat_ties a b tie = ranked a b Equal (sym tie)

int_ties : (a b : ℤ) → int_cmp a b ≡ Equal → a ≡ b
int_ties a b tie = int_ranked a b Equal (sym tie)

lt_by : (a b : Bool) → a ≡ is_lt (cond a Less (cond b Equal Greater))
lt_by true b = refl
lt_by false true = refl
lt_by false false = refl

lt_same : (y x : ℕ) → nat_lt y x ≡ is_lt (nat_cmp y x)
lt_same y x = lt_by (nat_lt y x) (y == x)

le_same : (y x : ℕ) → nat_le y x ≡ is_le (nat_cmp y x)
le_same y x = by_ranked (y < x) (y ≡ x) (x < y) (nat_cmp y x) (ranked y x (nat_cmp y x) refl)
    (λ is less. le-leb y x (omega (arith, less)) ∙ sym (ap is_le is))
    (λ is one. le-leb y x (omega (arith, one)) ∙ sym (ap is_le is))
    (λ is more. lt-leb y x more ∙ sym (ap is_le is))

-- a number stands at a place as it does by the order of numbers
stands_same : (place : ℕ) (list : List ℕ) (x : ℕ) → stands_at place list x ≡ stands_by nat_cmp place list x
stands_same place list x =
    λ i. nat_le (count_by (λ y. lt_same y x i) list) place && nat_lt place (count_by (λ y. le_same y x i) list)

-- the member at a place of a list of numbers, once it is sorted
pub member_there : (place : ℕ) (xs ys : List ℕ) → IsPermutation xs ys → IsSorted nat_cmp ys → place < length ys → member_at place xs ≡ get_or ys place 0
unfolding member_at
member_there place xs ys same up lt =
    (λ i. unwrap_or (find (λ x. stands_same place xs x i) xs) 0)
    ∙ member_there_by nat_cmp_total nat_ties place 0 0 xs ys same up lt

-- the low median of a list of numbers, once it is sorted
pub low_median_there : (xs ys : List ℕ) → IsPermutation xs ys → IsSorted nat_cmp ys → middle ys < length ys → low_median xs ≡ get_or ys (middle ys) 0
low_median_there xs ys same up lt =
    ap (λ (n : ℕ). member_at ((n - 1) / 2) xs) (sym (length_permutation xs ys same)) ∙ member_there (middle ys) xs ys same up lt

-- the same of whole numbers
pub int_median_there : (xs ys : List ℤ) (none d : ℤ) → IsPermutation xs ys → IsSorted int_cmp ys → middle ys < length ys
    → low_median_by int_cmp none xs ≡ get_or ys (middle ys) d
int_median_there xs ys none d same up lt =
    ap (λ (n : ℕ). unwrap_or (find (stands_by int_cmp ((n - 1) / 2) xs) xs) none) (sym (length_permutation xs ys same))
    ∙ member_there_by int_cmp_total int_ties (middle ys) none d xs ys same up lt
