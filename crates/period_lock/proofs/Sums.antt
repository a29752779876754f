-- Sums over the views of a table, by place.
use Rattle.std.proofs.Common.{◌≡◌, ◌≢◌, ℕ, zero, suc, ◌+◌, ◌≤◌, List, [], ◌∷◌, set, refl, sym, ap, ◌∙◌, arith}
use Rattle.std.{proofs.lemmas.List.Sums.sum_by-cons, specs.List.sum_by}
use mathlib.Core.Option.{some, some-ne-none, some-injective}
use lib.ListN.{get_elem?}

module _ {A : Type 0} (f : A → ℕ) where
  pub sum_set : (l : List A) (i : ℕ) (a b : A) → get_elem? l i ≡ some a → sum_by f (set l i b) + f a ≡ sum_by f l + f b
  sum_set [] i a b e = absurd (some-ne-none a (sym e))
  sum_set (x ∷ xs) zero a b e = omega (arith, sum_by-cons f b xs, sum_by-cons f x xs, ap f (some-injective x a e))
  sum_set (x ∷ xs) (suc i) a b e = omega (arith, sum_by-cons f x (set xs i b), sum_by-cons f x xs, sum_set xs i a b e)

  pub sum_same : (l : List A) (i : ℕ) (a b : A) → get_elem? l i ≡ some a → f b ≡ f a → sum_by f (set l i b) ≡ sum_by f l
  sum_same l i a b e same = omega (arith, sum_set l i a b e, same)

  at_most_sum : (l : List A) (i : ℕ) (a : A) → get_elem? l i ≡ some a → f a ≤ sum_by f l
  at_most_sum [] i a e = absurd (some-ne-none a (sym e))
  at_most_sum (x ∷ xs) zero a e = omega (arith, sum_by-cons f x xs, ap f (some-injective x a e))
  at_most_sum (x ∷ xs) (suc i) a e = omega (arith, sum_by-cons f x xs, at_most_sum xs i a e)

  -- two places together give no more than the sum
  pub two_at_most_sum : (l : List A) (i j : ℕ) (a b : A) → i ≢ j → get_elem? l i ≡ some a → get_elem? l j ≡ some b
      → f a + f b ≤ sum_by f l
  two_at_most_sum [] i j a b apart e d = absurd (some-ne-none a (sym e))
  two_at_most_sum (x ∷ xs) zero zero a b apart e d = absurd (apart refl)
  two_at_most_sum (x ∷ xs) zero (suc j) a b apart e d = omega
      (arith, sum_by-cons f x xs, ap f (some-injective x a e), at_most_sum xs j b d)
  two_at_most_sum (x ∷ xs) (suc i) zero a b apart e d = omega
      (arith, sum_by-cons f x xs, ap f (some-injective x b d), at_most_sum xs i a e)
  two_at_most_sum (x ∷ xs) (suc i) (suc j) a b apart e d = omega
      (arith, sum_by-cons f x xs, two_at_most_sum xs i j a b (λ s. apart (ap suc s)) e d)

module _ {A : Type 0} (f g : A → ℕ) (none : (a : A) → f a ≡ 0 → g a ≡ 0) where
  no_sum : (l : List A) → sum_by f l ≡ 0 → sum_by g l ≡ 0
  no_sum [] e = refl
  no_sum (x ∷ xs) e =
      let h : f x + sum_by f xs ≡ 0 = sym (sum_by-cons f x xs) ∙ e in
      omega (arith, sum_by-cons g x xs, none x (omega (arith, h)), no_sum xs (omega (arith, h)))

  -- where one place gives the whole sum, it gives the other sum too
  pub sum_at_one : (l : List A) (i : ℕ) (a : A) → get_elem? l i ≡ some a → sum_by f l ≤ f a → sum_by g l ≡ g a
  sum_at_one [] i a e most = absurd (some-ne-none a (sym e))
  sum_at_one (x ∷ xs) zero a e most =
      let same : x ≡ a = some-injective x a e in
      omega (arith, sum_by-cons g x xs, ap g same, no_sum xs (omega (arith, sum_by-cons f x xs, ap f same, most)))
  sum_at_one (x ∷ xs) (suc i) a e most =
      let there : f a ≤ sum_by f xs = at_most_sum f xs i a e in
      omega (
        arith,
        sum_by-cons g x xs,
        none x (omega (arith, sum_by-cons f x xs, there, most)),
        sum_at_one xs i a e
            (omega (arith, sum_by-cons f x xs, most)),
      )
