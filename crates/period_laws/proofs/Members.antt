-- Members of lists, tests of some member, and counts of those that pass a test.
use Rattle.std.proofs.Common.{◌≡◌, ℕ, ◌+◌, ◌*◌, ◌<◌, ◌≤◌, ◌⊎◌, ◌||◌, Bool, true, false, cond, List, [], ◌∷◌, ◌++◌}
use Rattle.std.proofs.Common.{length, get_or, zero, suc, refl, sym, ◌∙◌, subst, inl, inr, ⊎_elim, arith, fold, count_by}
use Rattle.std.proofs.{Common.{filter, find, Some}, lemmas.Bool.{false≢true, ltb-true, lt-ltb}}
use Rattle.std.specs.{Prelude.Contains, List.list_any}
use Rattle.count_terms.specs.Counts.{over}

-- two counts that are more than half of a number are more than it together
more : (n k l : ℕ) → over k n ≡ true → over l n ≡ true → n < k + l
more n k l e f = let a = ltb-true _ _ e in let b = ltb-true _ _ f in omega (arith, a, b)

lt-over : (n l : ℕ) → n < 2 * l → over l n ≡ true
lt-over n l lt = lt-ltb n (2 * l) lt

over_more : (n k l : ℕ) → k ≤ l → over k n ≡ true → over l n ≡ true
over_more n k l le e = let a = ltb-true _ _ e in lt-over n l (omega (arith, le, a))

module _ {X : Type 0} where
  -- x is a member of a list
  abbrev pub In : X → List X → Type 0
  In x [] = ⊥
  In x (y ∷ ys) = (x ≡ y) ⊎ In x ys

  at_index : (xs : List X) (k : ℕ) (d x : X) → k < length xs → get_or xs k d ≡ x → In x xs
  at_index [] k d x lt e = absurd (omega (arith, lt))
  at_index (y ∷ ys) zero d x lt e = inl (sym e)
  at_index (y ∷ ys) (suc k) d x lt e = inr (at_index ys k d x (omega (arith, lt)) e)

  pub in_from : (xs : List X) (x : X) → Contains xs x → In x xs
  in_from xs x h = at_index xs h.0 x x h.1 h.2

  pub in_to : (xs : List X) (x : X) → In x xs → Contains xs x
  in_to [] x h = absurd h
  in_to (y ∷ ys) x h = ⊎_elim (λ (e : x ≡ y). (0, omega arith, sym e)) (λ t. let r = in_to ys x t in
      (suc r.0, omega (arith, r.1), r.2)) h

  pub in_both : (l m : List X) (x : X) → In x l ⊎ In x m → In x (l ++ m)
  in_both [] m x i = ⊎_elim (λ (j : ⊥). absurd j) (λ j. j) i
  in_both (y ∷ l) m x i =
      ⊎_elim
      (λ (j : (x ≡ y) ⊎ In x l). ⊎_elim (λ (k : x ≡ y). inl k) (λ k. inr (in_both l m x (inl k))) j)
      (λ j. inr (in_both l m x (inr j)))
      i

  pub in_either : (l m : List X) (x : X) → In x (l ++ m) → In x l ⊎ In x m
  in_either [] m x i = inr i
  in_either (y ∷ l) m x i =
      ⊎_elim (λ (k : x ≡ y). inl (inl k))
      (λ j. ⊎_elim (λ (k : In x l). inl (inr k)) (λ k. inr k) (in_either l m x j)) i

  -- a member that passes makes the test of some member pass
  pub any_to : (p : X → Bool) (xs : List X) (x : X) → In x xs → p x ≡ true → list_any p xs ≡ true
  any_to p [] x i h = absurd i
  any_to p (y ∷ ys) x i h =
      ⊎_elim (λ (e : x ≡ y). let f : p y ≡ true = subst (λ (z : X). p z ≡ true) e h in rw f refl)
      (λ j. or_right (p y) (list_any p ys) (any_to p ys x j h)) i
    where
      or_right : (a b : Bool) → b ≡ true → (a || b) ≡ true
      or_right true b e = refl
      or_right false b e = e

  -- where some member passes, here is one
  pub any_from : (p : X → Bool) (xs : List X) → list_any p xs ≡ true → (x : X) × In x xs × (p x ≡ true)
  any_from p [] h = absurd (false≢true h)
  any_from p (y ∷ ys) h = by (p y) refl (any_from p ys) h
    where
      by : (b : Bool) → p y ≡ b → (list_any p ys ≡ true → (x : X) × In x ys × (p x ≡ true)) → (b || list_any p ys) ≡
          true → (x : X) × In x (y ∷ ys) × (p x ≡ true)
      by true e r g = (y, inl refl, e)
      by false e r g = let q = r g in (q.0, inr q.1, q.2)

  -- what is found passes, and is a member
  pub found : (p : X → Bool) (xs : List X) (x : X) → find p xs ≡ Some x → In x xs × (p x ≡ true)
  found p [] x h = absurd cc
  found p (y ∷ ys) x h = by (p y) refl (found p ys x) h
    where
      by : (b : Bool) → p y ≡ b → (find p ys ≡ Some x → In x ys × (p x ≡ true)) → cond b (Some y) (find p ys) ≡ Some x
          → In x (y ∷ ys) × (p x ≡ true)
      by true e r g = let same : y ≡ x = cc in (inl (sym same), subst (λ (z : X). p z ≡ true) same e)
      by false e r g = let q = r g in (inr q.0, q.1)

  -- what a filter keeps was there
  pub in_filter : (p : X → Bool) (xs : List X) (x : X) → In x (filter p xs) → In x xs × (p x ≡ true)
  in_filter p [] x i = absurd i
  in_filter p (y ∷ ys) x i = by (p y) refl (in_filter p ys x) i
    where
      by : (b : Bool) → p y ≡ b → (In x (filter p ys) → In x ys × (p x ≡ true))
          → In x (cond b (y ∷ filter p ys) (filter p ys)) → In x (y ∷ ys) × (p x ≡ true)
      by true e r j =
          ⊎_elim (λ (k : x ≡ y). (inl k, subst (λ (z : X). p z ≡ true) (sym k) e))
          (λ k. let q = r k in (inr q.0, q.1)) j
      by false e r j = let q = r j in (inr q.0, q.1)

  -- ---- counts

  -- those that pass, from the front on
  abbrev pub tally : (X → Bool) → List X → ℕ
  tally p [] = 0
  tally p (x ∷ xs) = cond (p x) 1 0 + tally p xs

  summed : (p : X → Bool) (xs : List X) (n : ℕ) → fold (λ a x. a + cond (p x) 1 0) n xs ≡ n + tally p xs
  summed p [] n = omega arith
  summed p (x ∷ xs) n = summed p xs (n + cond (p x) 1 0) ∙ omega arith

  pub count_is : (p : X → Bool) (xs : List X) → count_by p xs ≡ tally p xs
  count_is p xs = summed p xs 0 ∙ omega arith

  -- two tests of one member, or no more passes of both than members
  abbrev Both : (p q : X → Bool) → List X → Type 0
  Both p q xs = (x : X) × In x xs × (p x ≡ true) × (q x ≡ true)

  both_by : (p q : X → Bool) (xs : List X) → Both p q xs ⊎ (tally p xs + tally q xs ≤ length xs)
  both_by p q [] = inr (omega arith)
  both_by p q (x ∷ xs) = by (p x) (q x) refl refl (both_by p q xs)
    where
      by : (a b : Bool) → p x ≡ a → q x ≡ b → Both p q xs ⊎ (tally p xs + tally q xs ≤ length xs)
          → Both p q (x ∷ xs) ⊎ (tally p (x ∷ xs) + tally q (x ∷ xs) ≤ length (x ∷ xs))
      by true true e f r = inl (x, inl refl, e, f)
      by true false e f r = ⊎_elim (λ (k : Both p q xs). inl (k.0, inr k.1, k.2, k.3))
          (λ k. inr (rw (e, f) (omega (arith, k)))) r
      by false true e f r = ⊎_elim (λ (k : Both p q xs). inl (k.0, inr k.1, k.2, k.3))
          (λ k. inr (rw (e, f) (omega (arith, k)))) r
      by false false e f r = ⊎_elim (λ (k : Both p q xs). inl (k.0, inr k.1, k.2, k.3))
          (λ k. inr (rw (e, f) (omega (arith, k)))) r

  -- two majorities share a member
  pub shared : (p q : X → Bool) (xs : List X) → over (count_by p xs) (length xs) ≡ true → over (count_by q xs)
      (length xs) ≡ true → Both p q xs
  shared p q xs e f =
      let lt = more (length xs) (count_by p xs) (count_by q xs) e f in
      ⊎_elim (λ (k : Both p q xs). k) (λ k. absurd (omega (arith, lt, k, count_is p xs, count_is q xs)))
      (both_by p q xs)

  tally_le : (p q : X → Bool) (xs : List X) → ((x : X) → In x xs → p x ≡ true → q x ≡ true) → tally p xs ≤ tally q xs
  tally_le p q [] to = omega arith
  tally_le p q (x ∷ xs) to = by (p x) refl (tally_le p q xs (λ y i. to y (inr i)))
    where
      by : (a : Bool) → p x ≡ a → tally p xs ≤ tally q xs → tally p (x ∷ xs) ≤ tally q (x ∷ xs)
      by true e r = rw (e, to x (inl refl) e) (omega (arith, r))
      by false e r = rw e (omega (arith, r))

  -- where each that passes passes another test, more than half pass that too
  pub over_with : (p q : X → Bool) (xs : List X) → ((x : X) → In x xs → p x ≡ true → q x ≡ true)
      → over (count_by p xs) (length xs) ≡ true → over (count_by q xs) (length xs) ≡ true
  over_with p q xs to e =
      over_more (length xs) (count_by p xs) (count_by q xs) (omega (
        arith,
        tally_le p q xs to,
        count_is p xs,
        count_is q xs,
      )) e
