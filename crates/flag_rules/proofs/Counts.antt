-- How many items of a list pass a test, by where they stand.
use Rattle.std.proofs.Common.{◌≡◌, ℕ, zero, suc, ◌+◌, ◌<◌, ◌≤◌, ◌≢◌, Bool, true, false, cond, List, [], ◌∷◌, length}
use Rattle.std.{proofs.Common.{get_or, refl, sym, ap, map, ◌∙◌, arith}, specs.{Prelude.◌&&◌, List.{count_by, filter}}}
use Rattle.std.specs.List.{zip, AllPairs}
use Rattle.count_terms.proofs.Passing.{count_low, more, one_at_most, one_if}

-- where none passes but at one place, at most one does
pub count_one : {X : Type 0} (p : X → Bool) (xs : List X) (m : ℕ)
    → ((j : ℕ) (d : X) → j ≢ m → j < length xs → p (get_or xs j d) ≡ false) → count_by p xs ≤ 1
count_one p [] m none = omega arith
count_one p (x ∷ xs) zero none =
    let rest = count_low p xs zero (λ j d from lt. none (suc j) d (λ e. omega (arith, e)) (omega arith)) in
    omega (arith, more p x xs, one_at_most (p x), rest)
count_one p (x ∷ xs) (suc m) none =
    let rest = count_one p xs m (λ j d ne lt. none (suc j) d (λ e. ne (omega (arith, e))) (omega arith)) in
    let first : one_if (p x) ≡ 0 = ap one_if (none zero x (λ e. omega (arith, e)) (omega arith)) in
    omega (arith, more p x xs, first, rest)

-- where one passes, at least one does
count_some : {X : Type 0} (p : X → Bool) (xs : List X) (i : ℕ) (d : X) → i < length xs → p (get_or xs i d) ≡ true
    → 1 ≤ count_by p xs
count_some p [] i d within one = absurd (omega arith)
count_some p (x ∷ xs) zero d within one =
    let first : one_if (p x) ≡ 1 = ap one_if one in
    omega (arith, more p x xs, first)
count_some p (x ∷ xs) (suc i) d within one =
    let rest = count_some p xs i d (omega arith) one in
    omega (arith, more p x xs, rest)

-- where two pass, at least two do
pub count_both : {X : Type 0} (p : X → Bool) (xs : List X) (i j : ℕ) (d : X) → i < j → j < length xs
    → p (get_or xs i d) ≡ true → p (get_or xs j d) ≡ true → 2 ≤ count_by p xs
count_both p [] i j d lt within one other = absurd (omega arith)
count_both p (x ∷ xs) i zero d lt within one other = absurd (omega arith)
count_both p (x ∷ xs) zero (suc j) d lt within one other =
    let first : one_if (p x) ≡ 1 = ap one_if one in
    let rest = count_some p xs j d (omega arith) other in
    omega (arith, more p x xs, first, rest)
count_both p (x ∷ xs) (suc i) (suc j) d lt within one other =
    let rest = count_both p xs i j d (omega arith) (omega arith) one other in
    omega (arith, more p x xs, rest)

-- where of each two at most one passes, at most one does
pub count_apart : {X : Type 0} (p : X → Bool) (xs : List X)
    → AllPairs (λ earlier later. p earlier ≡ true → p later ≡ false) xs → count_by p xs ≤ 1
count_apart p [] apart = omega arith
count_apart {X} p (x ∷ xs) apart =
    let by : (b : Bool) → p x ≡ b → count_by p (x ∷ xs) ≤ 1 =
    λ b. elim b as (λ b. p x ≡ b → count_by p (x ∷ xs) ≤ 1) [
      | true ↦ λ is.
          let rest = count_low p xs zero (λ j d from lt. apart zero (suc j) d (omega arith) (omega (arith, lt)) is) in
          omega (arith, more p x xs, one_at_most (p x), rest)
      | false ↦ λ is.
          let first : one_if (p x) ≡ 0 = ap one_if is in
          let rest = count_apart p xs (λ i j d lt within. apart (suc i) (suc j) d (omega (arith, lt))
          (omega (arith, within))) in
          omega (arith, more p x xs, first, rest)
    ] in
    by (p x) refl

-- where of each three at most two pass, at most two do
pub count_few : {X : Type 0} (p : X → Bool) (xs : List X)
    → ((i j k : ℕ) (d : X) → i < j → j < k → k < length xs → p (get_or xs i d) ≡ true → p (get_or xs j d) ≡ true
    → p (get_or xs k d) ≡ false)
    → count_by p xs ≤ 2
count_few p [] none = omega arith
count_few {X} p (x ∷ xs) none =
    let by : (b : Bool) → p x ≡ b → count_by p (x ∷ xs) ≤ 2 =
    λ b. elim b as (λ b. p x ≡ b → count_by p (x ∷ xs) ≤ 2) [
      | true ↦ λ is.
          let rest = count_apart p xs (λ i j d lt within.
          none zero (suc i) (suc j) d (omega arith) (omega (arith, lt)) (omega (arith, within)) is) in
          omega (arith, more p x xs, one_at_most (p x), rest)
      | false ↦ λ is.
          let first : one_if (p x) ≡ 0 = ap one_if is in
          let rest = count_few p xs (λ i j k d lt after within.
          none (suc i) (suc j) (suc k) d (omega (arith, lt)) (omega (arith, after)) (omega (arith, within))) in
          omega (arith, more p x xs, first, rest)
    ] in
    by (p x) refl

-- the ones of a list that pass two tests are those of the ones that pass the first
pub count-filter : {X : Type 0} (p q : X → Bool) (xs : List X)
    → count_by p (filter q xs) ≡ count_by (λ x. q x && p x) xs
count-filter p q [] = refl
count-filter {X} p q (x ∷ xs) =
    let by : (b : Bool) → q x ≡ b → count_by p (cond b (x ∷ filter q xs) (filter q xs)) ≡ one_if
    (b && p x) + count_by (λ x. q x && p x) xs =
    λ b. elim b as (λ b. q x ≡ b → count_by p (cond b (x ∷ filter q xs) (filter q xs)) ≡ one_if
    (b && p x) + count_by (λ x. q x && p x) xs) [
      | true ↦ λ is. more p x (filter q xs) ∙ ap (λ (n : ℕ). one_if (p x) + n) (count-filter p q xs)
      | false ↦ λ is. let rest = count-filter p q xs in omega (arith, rest)
    ] in
    by (q x) refl ∙ sym (more (λ x. q x && p x) x xs)

-- items beside what was made of them
pub count-zip : {X Y Z : Type 0} (p : X × Z → Bool) (g : X → Y) (f : Y → Z) (xs : List X)
    → count_by p (zip xs (map f (map g xs))) ≡ count_by (λ x. p (x, f (g x))) xs
count-zip p g f [] = refl
count-zip p g f (x ∷ xs) =
    more p (x, f (g x)) (zip xs (map f (map g xs)))
    ∙ ap (λ (n : ℕ). one_if (p (x, f (g x))) + n) (count-zip p g f xs)
    ∙ sym (more (λ x. p (x, f (g x))) x xs)
