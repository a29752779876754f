-- The member at a place is the one that stands there once the list is sorted.
use Rattle.std.proofs.Common.{◌≡◌, ℕ, ◌+◌, ◌<◌, ◌≤◌, Bool, true, false, cond, List, [], ◌∷◌, length, get_or, refl, sym}
use Rattle.std.proofs.{Common.{ap, ◌∙◌, arith, subst, ⊎_elim, Some, None, Option}, lemmas.Bool.{and_from, and_parts}}
use Rattle.std.proofs.lemmas.Bool.{le-leb, lt-ltb, lt-leb, le-ltb, leb-true, ltb-true, cases_order, and_right}
use Rattle.std.proofs.lemmas.List.{get_or_default, Folds.list_any_at, Sums.count_by-le-length}
use Rattle.std.{proofs.lemmas.List.Sorted.{list_any-IsPermutation, length_permutation}, specs.Prelude.{nat_le, nat_lt}}
use Rattle.std.specs.{Prelude.{◌&&◌, unwrap_or}, List.{count_by, find, list_any, Sorted.IsPermutation}}
use Rattle.std.specs.List.Sorted.{IsNonDecreasingBy}
use Rattle.count_terms.{specs.Counts.{stands_at, member_at}, proofs.Passing.{count-permutation, count_low, count_high}}

-- the member of a sorted list at a place stands there
stands : (ys : List ℕ) (place : ℕ) → IsNonDecreasingBy (λ y. y) ys → place < length ys
    → stands_at place ys (get_or ys place 0) ≡ true
stands ys place up lt =
    let y = get_or ys place 0 in
    let few = count_low (λ z. nat_lt z y) ys place (λ j d from within.
    let above : y ≤ get_or ys j 0 = up place j 0 from within in
    le-ltb (get_or ys j d) y (subst (λ (n : ℕ). y ≤ n) (get_or_default ys j 0 d within) above)) in
    let many = count_high (λ z. nat_le z y) ys (place + 1) (omega arith) (λ j d before.
    let below : get_or ys j 0 ≤ y = up j place 0 (omega arith) lt in
    le-leb (get_or ys j d) y (subst (λ (n : ℕ). n ≤ y) (get_or_default ys j 0 d (omega arith)) below)) in
    and_from _ _ (le-leb (count_by (λ z. nat_lt z y) ys) place few)
    (lt-ltb place (count_by (λ z. nat_le z y) ys) (omega (arith, many)))

-- no other one does
alone : (ys : List ℕ) (place x : ℕ) → IsNonDecreasingBy (λ y. y) ys → place < length ys
    → stands_at place ys x ≡ true → x ≡ get_or ys place 0
alone ys place x up lt is =
    let y = get_or ys place 0 in
    let parts = and_parts (nat_le (count_by (λ z. nat_lt z x) ys) place)
    (nat_lt place (count_by (λ z. nat_le z x) ys)) is in
    let few = leb-true (count_by (λ z. nat_lt z x) ys) place parts.0 in
    let many = ltb-true place (count_by (λ z. nat_le z x) ys) parts.1 in
    let below : x < y → x ≡ y = λ less.
    let most = count_low (λ z. nat_le z x) ys place (λ j d from within.
    let above : y ≤ get_or ys j 0 = up place j 0 from within in
    lt-leb (get_or ys j d) x (subst (λ (n : ℕ). x < n) (get_or_default ys j 0 d within)
    (omega (arith, less, above)))) in
    absurd (omega (arith, most, many)) in
    let over : y < x → x ≡ y = λ more.
    let least = count_high (λ z. nat_lt z x) ys (place + 1) (omega arith) (λ j d before.
    let under : get_or ys j 0 ≤ y = up j place 0 (omega arith) lt in
    lt-ltb (get_or ys j d) x (subst (λ (n : ℕ). n < x) (get_or_default ys j 0 d (omega arith))
    (omega (arith, more, under)))) in
    absurd (omega (arith, least, few)) in
    ⊎_elim (λ e. e) (⊎_elim below over) (cases_order x y)

-- what is found is the one value that passes
found : (p : ℕ → Bool) (xs : List ℕ) (y : ℕ) → ((x : ℕ) → p x ≡ true → x ≡ y) → list_any p xs ≡ true
    → unwrap_or (find p xs) 0 ≡ y
found p [] y one = λ some. absurd cc
found p (x ∷ xs) y one =
    let by : (b : Bool) → p x ≡ b → list_any p (x ∷ xs) ≡ true → unwrap_or (cond b (Some x) (find p xs)) 0 ≡ y =
    λ b. elim b as (λ b. p x ≡ b → list_any p (x ∷ xs) ≡ true → unwrap_or (cond b (Some x) (find p xs)) 0 ≡ y) [
      | true ↦ λ is some. one x is
      | false ↦ λ is some. let rest : list_any p xs ≡ true = rw is at some in found p xs y one rest
    ] in
    by (p x) refl

none_found : (p : ℕ → Bool) (xs : List ℕ) → ((x : ℕ) → p x ≡ false) → find p xs ≡ None
none_found p [] none = refl
none_found p (x ∷ xs) none = let is = none x in let rest = none_found p xs none in rw (is, rest) refl

-- the same test of a list and of its permutation
same_test : (place x : ℕ) (xs ys : List ℕ) → IsPermutation xs ys → stands_at place xs x ≡ stands_at place ys x
same_test place x xs ys same =
    let below : count_by (λ z. nat_lt z x) ys ≡ count_by (λ z. nat_lt z x) xs =
    count-permutation (λ z. nat_lt z x) xs ys same in
    let upto : count_by (λ z. nat_le z x) ys ≡ count_by (λ z. nat_le z x) xs =
    count-permutation (λ z. nat_le z x) xs ys same in
    sym (ap (λ (n : ℕ). nat_le n place && nat_lt place (count_by (λ z. nat_le z x) ys)) below
    ∙ ap (λ (n : ℕ). nat_le (count_by (λ z. nat_lt z x) xs) place && nat_lt place n) upto)

-- the member at a place of a list, once it is sorted
pub member_there : (place : ℕ) (xs ys : List ℕ) → IsPermutation xs ys → IsNonDecreasingBy (λ y. y) ys
    → place < length ys → member_at place xs ≡ get_or ys place 0
unfolding member_at
member_there place xs ys same up lt =
    let p : ℕ → Bool = stands_at place xs in
    let y = get_or ys place 0 in
    let its : p y ≡ true = same_test place y xs ys same ∙ stands ys place up lt in
    let some : list_any p xs ≡ true = list_any-IsPermutation p xs ys same ∙ list_any_at p ys place 0 lt its in
    found p xs y (λ x is. alone ys place x up lt (sym (same_test place x xs ys same) ∙ is)) some

-- there is none behind the last
pub no_member : (place : ℕ) (xs ys : List ℕ) → IsPermutation xs ys → length ys ≤ place → member_at place xs ≡ 0
unfolding member_at
no_member place xs ys same past =
    let long : length ys ≡ length xs = length_permutation xs ys same in
    let none : (x : ℕ) → stands_at place xs x ≡ false = λ x.
    let most = count_by-le-length (λ z. nat_le z x) xs in
    and_right (nat_le (count_by (λ z. nat_lt z x) xs) place) (nat_lt place (count_by (λ z. nat_le z x) xs))
    (le-ltb place (count_by (λ z. nat_le z x) xs) (omega (arith, most, long, past))) in
    ap (λ (o : Option ℕ). unwrap_or o 0) (none_found (stands_at place xs) xs none)
