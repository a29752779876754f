-- Fractions of a scale that are truncated.
use Rattle.std.proofs.Common.{◌≡◌, refl, sym, ap, ◌∙◌, ℕ, zero, suc, ◌+◌, ◌-◌, ◌*◌, ◌/◌, ◌<◌, ◌≤◌, inl, inr, arith, pos}
use Rattle.std.proofs.{Common.{negsuc, neg_ℤ, ◌+ℤ◌, ◌-ℤ◌, ◌*ℤ◌}, Math.Nat.{div-le_of_le-mul, mul-div-le}}
use Rattle.std.proofs.Math.Nat.{mul-le-mul_left, le_of_mul-le-mul_left, lt-mul-div-succ, lt_of_mul-lt-mul_left}
use Rattle.std.proofs.{Math.Nat.{zero-div, add-mul-div_right}, lemmas.{Bool.cases_lt, Int.{ints, clamps}}}
use Rattle.std.specs.{Prelude.int_div, Int.int_max}
use Rattle.bw_weights.specs.{Balance.IsWholeBut, Fractions.fraction}

-- a fraction of at most one
pub below_whole : (s n d : ℕ) → n ≤ d → s * n / d ≤ s
below_whole s n d h = div-le_of_le-mul d (omega (arith, mul-le-mul_left s h))

-- two fractions of at most one together
pub two_below : (s a b d : ℕ) → 0 < d → a + b ≤ d → s * a / d + s * b / d ≤ s
two_below s a b d p h =
    le_of_mul-le-mul_left (omega (arith, mul-div-le (s * a) d, mul-div-le (s * b) d, mul-le-mul_left s h)) p

-- two fractions of one together lose at most one unit
pub two_whole : (s a b d : ℕ) → 0 < d → a + b ≡ d → s ≤ s * a / d + s * b / d + 1
two_whole s a b d p e =
    let h : d ≤ a + b = omega arith in
    let near : s < s * a / d + s * b / d + 2 =
    lt_of_mul-lt-mul_left d
    (omega (arith, lt-mul-div-succ (s * a) p, lt-mul-div-succ (s * b) p, mul-le-mul_left s h)) in
    omega arith

-- the fraction of one and a part is the scale and the part's
pub whole_and_part : (s k d : ℕ) → 0 < d → s * (d + k) / d ≡ s + s * k / d
whole_and_part s k d p =
    let e : s * (d + k) ≡ s * k + s * d = omega arith in
    let split = add-mul-div_right (s * k) s p in
    ap (λ n. n / d) e ∙ omega (arith, split)

-- a negative fraction, truncated toward zero
pub negative_fraction : (n d : ℕ) → int_div (neg_ℤ (pos n)) (pos d) ≡ neg_ℤ (pos (n / d))
negative_fraction zero d = let e = zero-div d in rw e refl
negative_fraction (suc n) d = refl

-- the share of D that levels the class X with the two others, where X has not more than is its due
pub level : (s x y z d : ℕ) → 2 * x ≤ d + y + z →
    fraction (pos s) (pos d -ℤ pos 2 *ℤ pos x +ℤ pos y +ℤ pos z) (pos 3 *ℤ pos d)
    ≡ pos (s * (d + y + z - 2 * x) / (3 * d))
level s x y z d h =
    let e : pos d -ℤ pos 2 *ℤ pos x +ℤ pos y +ℤ pos z ≡ pos (d + y + z - 2 * x) = omega (arith, ints) in
    ap (λ n. fraction (pos s) n (pos 3 *ℤ pos d)) e

-- of a number and nothing the greater is the number
at_least_none : (n : ℕ) → int_max (pos n) (pos 0) ≡ pos n
at_least_none n = omega (arith, ints, clamps)

-- of a negative number and nothing it is nothing
none_at_most : (n : ℕ) → int_max (neg_ℤ (pos n)) (pos 0) ≡ pos 0
none_at_most zero = refl
none_at_most (suc n) = refl

-- nothing has no part
pub none_of_none : (s n d : ℕ) → n ≡ 0 → s * n / d ≡ 0
none_of_none s n d e =
    let none : s * n ≡ 0 = rw e (omega arith) in
    ap (λ k. k / d) none ∙ zero-div d

-- and none where it has more
pub level_or_none : (s x y z d : ℕ) →
    int_max (fraction (pos s) (pos d -ℤ pos 2 *ℤ pos x +ℤ pos y +ℤ pos z) (pos 3 *ℤ pos d)) (pos 0)
    ≡ pos (s * (d + y + z - 2 * x) / (3 * d))
level_or_none s x y z d = elim (cases_lt (d + y + z) (2 * x)) [
  | inl more ↦
      let n = 2 * x - (d + y + z) - 1 in
      let e : pos d -ℤ pos 2 *ℤ pos x +ℤ pos y +ℤ pos z ≡ negsuc (2 * x - (d + y + z) - 1) = omega (arith, ints) in
      let none : d + y + z - 2 * x ≡ 0 = omega arith in
      ap (λ k. int_max (fraction (pos s) k (pos 3 *ℤ pos d)) (pos 0)) e
      ∙ ap (λ k. int_max k (pos 0)) (negative_fraction (s * suc n) (3 * d))
      ∙ none_at_most (s * suc n / (3 * d))
      ∙ ap pos (sym (none_of_none s (d + y + z - 2 * x) (3 * d) none))
  | inr less ↦ ap (λ k. int_max k (pos 0)) (level s x y z d less) ∙ at_least_none (s * (d + y + z - 2 * x) / (3 * d))
]

-- more than one and the negative rest of it, where that is truncated to a number
more_than_one : (s j e a b : ℕ) → 0 < e →
    fraction (pos s) (pos (e + suc j)) (pos e) ≡ pos a → fraction (pos s) (negsuc j) (pos e) ≡ pos b → a + b ≡ s
more_than_one s j e a b p ea eb =
    let negative : pos b ≡ neg_ℤ (pos (s * suc j / e)) = sym eb ∙ negative_fraction (s * suc j) e in
    let split = whole_and_part s (suc j) e p in
    omega (arith, ints, ea, negative, split)

-- where exits help in the middle, the two parts of them are the whole but for one unit
pub exits_split : (g m e s a b : ℕ) → 0 < e →
    fraction (pos s) (pos e -ℤ pos g +ℤ pos m) (pos e) ≡ pos a →
    fraction (pos s) (pos g -ℤ pos m) (pos e) ≡ pos b → IsWholeBut 1 (a + b) s
exits_split g m e s a b p ea eb = elim (cases_lt g m) [
  | inl fewer ↦
      let na : pos e -ℤ pos g +ℤ pos m ≡ pos (e + suc (m - g - 1)) = omega (arith, ints) in
      let nb : pos g -ℤ pos m ≡ negsuc (m - g - 1) = omega (arith, ints) in
      let sum : a + b ≡ s =
      more_than_one s (m - g - 1) e a b p
      (sym (ap (λ n. fraction (pos s) n (pos e)) na) ∙ ea) (sym (ap (λ n. fraction (pos s) n (pos e)) nb) ∙ eb) in
      record { most = omega arith; least = omega arith }
  | inr more ↦ elim (cases_lt e (g - m)) [
    | inl above ↦
        let na : pos e -ℤ pos g +ℤ pos m ≡ negsuc (g - m - e - 1) = omega (arith, ints) in
        let nb : pos g -ℤ pos m ≡ pos (e + suc (g - m - e - 1)) = omega (arith, ints) in
        let sum : b + a ≡ s =
        more_than_one s (g - m - e - 1) e b a p
        (sym (ap (λ n. fraction (pos s) n (pos e)) nb) ∙ eb) (sym (ap (λ n. fraction (pos s) n (pos e)) na) ∙ ea) in
        record { most = omega arith; least = omega arith }
    | inr below ↦
        let na : pos e -ℤ pos g +ℤ pos m ≡ pos (e - (g - m)) = omega (arith, ints) in
        let nb : pos g -ℤ pos m ≡ pos (g - m) = omega (arith, ints) in
        let fa : pos (s * (e - (g - m)) / e) ≡ pos a = sym (ap (λ n. fraction (pos s) n (pos e)) na) ∙ ea in
        let fb : pos (s * (g - m) / e) ≡ pos b = sym (ap (λ n. fraction (pos s) n (pos e)) nb) ∙ eb in
        let one : e - (g - m) + (g - m) ≡ e = omega arith in
        let most = two_below s (e - (g - m)) (g - m) e p (omega arith) in
        let least = two_whole s (e - (g - m)) (g - m) e p one in
        record { most = omega (arith, ints, fa, fb, most); least = omega (arith, ints, fa, fb, least) }
  ]
]
