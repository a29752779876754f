-- The member at a place is the one that stands there once the list is sorted, whatever the order.
use Rattle.std.proofs.Common.{◌≡◌, ℕ, ◌+◌, ◌<◌, ◌≤◌, Bool, true, false, cond, List, [], ◌∷◌, length, get_or, refl, sym}
use Rattle.std.proofs.{Common.{ap, ◌∙◌, arith, subst, Some}, lemmas.Bool.{and_from, and_parts, le-leb, lt-ltb}}
use Rattle.std.proofs.lemmas.{Bool.{leb-true, ltb-true}, Cmp.tied_back, List.{get_or_default, Folds.list_any_at}}
use Rattle.std.{proofs.lemmas.List.Sorted.{list_any-IsPermutation, sorted_far, ranks_by}, specs.Prelude.nat_le}
use Rattle.std.specs.{Prelude.{nat_lt, ◌&&◌, unwrap_or}, List.{count_by, find, list_any, Sorted.IsPermutation}}
use Rattle.std.specs.{List.Sorted.IsSorted, Cmp.IsTotalOrder, Ordering.{ordering_reverse, is_lt, is_le}}
use Rattle.std.specs.declared.cmp.Ordering.{Ordering, TheVariants.{Less, Equal, Greater}}
use Rattle.count_terms.{specs.Medians.stands_by, proofs.Passing.{count-permutation, count_low, count_high}}

-- what is found is the one value that passes
found : {A : Type 0} (p : A → Bool) (none : A) (xs : List A) (y : A) → ((x : A) → p x ≡ true → x ≡ y) → list_any p xs ≡ true
    → unwrap_or (find p xs) none ≡ y
found p none [] y one = λ some. absurd cc
found {A} p none (x ∷ xs) y one =
    let by : (b : Bool) → p x ≡ b → list_any p (x ∷ xs) ≡ true → unwrap_or (cond b (Some x) (find p xs)) none ≡ y =
    λ b. elim b as (λ b. p x ≡ b → list_any p (x ∷ xs) ≡ true → unwrap_or (cond b (Some x) (find p xs)) none ≡ y) [
      | true ↦ λ is some. one x is
      | false ↦ λ is some. let rest : list_any p xs ≡ true = rw is at some in found p none xs y one rest
    ] in
    by (p x) refl

module _ {A : Type 0} {R : A → A → Ordering} (o : IsTotalOrder R) where
  -- what does not come before another stands at it or above it
  at_or_above : (x y : A) → is_lt (R y x) ≡ false → is_le (R x y) ≡ true
  at_or_above x y above = by (R y x) (R x y) (o.antisymm x y) above
    where
      by : (p q : Ordering) → q ≡ ordering_reverse p → is_lt p ≡ false → is_le q ≡ true
      by Less q is h = absurd cc
      by Equal q is h = ap is_le is
      by Greater q is h = ap is_le is

  turned : (x y : A) (p : Ordering) → R x y ≡ p → R y x ≡ ordering_reverse p
  turned x y p is = o.antisymm y x ∙ ap ordering_reverse is

  -- what comes before a value is above none that is not below that value
  still_above : (x y z : A) → R x y ≡ Less → is_lt (R z y) ≡ false → is_le (R z x) ≡ false
  still_above x y z less above = by (R z y) refl above
    where
      by : (p : Ordering) → R z y ≡ p → is_lt p ≡ false → is_le (R z x) ≡ false
      by Less is h = absurd cc
      by Equal is h = ap is_le (o.congr z y x is ∙ turned x y Less less)
      by Greater is h = ap is_le (turned x z Less (o.trans x y z less (turned z y Greater is)))

  -- what is not above a value comes before each that the value comes before
  still_below : (x y z : A) → R y x ≡ Less → is_lt (R y z) ≡ false → is_lt (R z x) ≡ true
  still_below x y z less below = by (R y z) refl below
    where
      by : (p : Ordering) → R y z ≡ p → is_lt p ≡ false → is_lt (R z x) ≡ true
      by Less is h = absurd cc
      by Equal is h = ap is_lt (o.congr z y x (tied_back o y z is) ∙ less)
      by Greater is h = ap is_lt (o.trans z y x (turned y z Greater is) less)

  -- in a sorted list no member comes before one that stands earlier
  in_order : (ys : List A) → IsSorted R ys → (i j : ℕ) (d : A) → i ≤ j → j < length ys → is_lt (R (get_or ys j d) (get_or ys i d)) ≡ false
  in_order ys up i j d from within = sorted_far (λ x y. is_lt (R x y)) (ranks_by o (λ x. x)) ys up i j d from within

  -- the member of a sorted list at a place stands there
  stands : (ys : List A) (place : ℕ) (d : A) → IsSorted R ys → place < length ys → stands_by R place ys (get_or ys place d) ≡ true
  stands ys place d up lt =
      let y = get_or ys place d in
      let few = count_low (λ z. is_lt (R z y)) ys place (λ j e from within.
      subst (λ (t : A). is_lt (R (get_or ys j e) t) ≡ false) (get_or_default ys place e d lt) (in_order ys up place j e from within)) in
      let many = count_high (λ z. is_le (R z y)) ys (place + 1) (omega arith) (λ j e before.
      at_or_above (get_or ys j e) y (subst (λ (t : A). is_lt (R t (get_or ys j e)) ≡ false) (get_or_default ys place e d lt)
      (in_order ys up j place e (omega arith) lt))) in
      and_from _ _ (le-leb (count_by (λ z. is_lt (R z y)) ys) place few)
      (lt-ltb place (count_by (λ z. is_le (R z y)) ys) (omega (arith, many)))

  -- no other one does
  alone : ((a b : A) → R a b ≡ Equal → a ≡ b) → (ys : List A) (place : ℕ) (d x : A) → IsSorted R ys → place < length ys
      → stands_by R place ys x ≡ true → x ≡ get_or ys place d
  alone ties ys place d x up lt is = by (R x y) refl
    where
      y : A
      y = get_or ys place d

      few : count_by (λ z. is_lt (R z x)) ys ≤ place
      few = leb-true (count_by (λ z. is_lt (R z x)) ys) place
          (and_parts (nat_le (count_by (λ z. is_lt (R z x)) ys) place) (nat_lt place (count_by (λ z. is_le (R z x)) ys)) is).0

      many : place < count_by (λ z. is_le (R z x)) ys
      many = ltb-true place (count_by (λ z. is_le (R z x)) ys)
          (and_parts (nat_le (count_by (λ z. is_lt (R z x)) ys) place) (nat_lt place (count_by (λ z. is_le (R z x)) ys)) is).1

      by : (p : Ordering) → R x y ≡ p → x ≡ y
      by Less less =
          let most = count_low (λ z. is_le (R z x)) ys place (λ j e from within.
          still_above x y (get_or ys j e) less (subst (λ (t : A). is_lt (R (get_or ys j e) t) ≡ false) (get_or_default ys place e d lt)
          (in_order ys up place j e from within))) in
          absurd (omega (arith, most, many))
      by Equal tie = ties x y tie
      by Greater more =
          let least = count_high (λ z. is_lt (R z x)) ys (place + 1) (omega arith) (λ j e before.
          still_below x y (get_or ys j e) (turned x y Greater more)
          (subst (λ (t : A). is_lt (R t (get_or ys j e)) ≡ false) (get_or_default ys place e d lt) (in_order ys up j place e (omega arith) lt))) in
          absurd (omega (arith, least, few))

  -- the same test of a list and of its permutation
  same_test : (place : ℕ) (x : A) (xs ys : List A) → IsPermutation xs ys → stands_by R place xs x ≡ stands_by R place ys x
  same_test place x xs ys same =
      let below = count-permutation (λ z. is_lt (R z x)) xs ys same in
      let upto = count-permutation (λ z. is_le (R z x)) xs ys same in
      λ i. nat_le (sym below i) place && nat_lt place (sym upto i)

  -- the member at a place of a list, once it is sorted
  pub member_there_by : ((a b : A) → R a b ≡ Equal → a ≡ b) → (place : ℕ) (none d : A) (xs ys : List A) → IsPermutation xs ys → IsSorted R ys
      → place < length ys → unwrap_or (find (stands_by R place xs) xs) none ≡ get_or ys place d
  member_there_by ties place none d xs ys same up lt =
      let p : A → Bool = stands_by R place xs in
      let y = get_or ys place d in
      let its : p y ≡ true = same_test place y xs ys same ∙ stands ys place d up lt in
      let some : list_any p xs ≡ true = list_any-IsPermutation p xs ys same ∙ list_any_at p ys place d lt its in
      found p none xs y (λ x is. alone ties ys place d x up lt (sym (same_test place x xs ys same) ∙ is)) some
