-- The bits of a range of numbers.
use Rattle.std.proofs.Common.{◌≡◌, ℕ, zero, suc, ◌+◌, ◌-◌, ◌*◌, ◌/◌, ◌%◌, ◌^◌, ◌<◌, ◌≤◌, Bool, true, false, refl, ap}
use Rattle.std.proofs.{Common.{ap₂, ◌∙◌, arith}, lemmas.{Bool.{leb-true, leb-false}, Nat.Bits.{shr_and_one, ones_shr}}}
use Rattle.std.proofs.lemmas.Nat.Bits.{ones_shl, bit_at_and, bit_at_or, bit_at_ones, bit_at_ones_above}
use Rattle.std.proofs.lemmas.Nat.Bits.{bit_at_mask_inside, bit_at_mask_below, bit_at-lt, bit_at-zero}
use Rattle.std.specs.{Prelude.{◌==◌, ◌&&◌, bit_and, bit_or, min, max, nat_le, if◌then◌else◌, ◌||◌}, Int.bit_at}
use Rattle.list_values.specs.Masks.{is_set}

-- the bit that a shift brings to the front
pub shifted : (mask number : ℕ) → (bit_and (mask / 2 ^ number) 1 == 1) ≡ (bit_at mask number == 1)
shifted mask number = ap (λ (n : ℕ). n == 1) (shr_and_one mask number)

-- the bits up to a number
low_bits : (high number : ℕ) → bit_at (2 ^ (high + 1) - 1) number ≡ (if nat_le number high then 1 else 0)
low_bits high number = by (nat_le number high) refl
  where
    by : (b : Bool) → nat_le number high ≡ b → bit_at (2 ^ (high + 1) - 1) number ≡ (if b then 1 else 0)
    by true is = bit_at_ones (high + 1) number (let le = leb-true number high is in omega (arith, le))
    by false is = bit_at_ones_above (high + 1) number (let gt = leb-false number high is in omega (arith, gt))

-- the bits from a number on
high_bits : (low number : ℕ) → number < 64 → bit_at (2 ^ 64 - 2 ^ low) number ≡ (if nat_le low number then 1 else 0)
high_bits low number lt = by (nat_le low number) refl
  where
    by : (b : Bool) → nat_le low number ≡ b → bit_at (2 ^ 64 - 2 ^ low) number ≡ (if b then 1 else 0)
    by true is = bit_at_mask_inside low 64 number (leb-true low number is) lt
    by false is = bit_at_mask_below low 64 number (leb-false low number is)

lesser_bit_is_and : (a b : Bool) → (min (if b then 1 else 0) (if a then 1 else 0) == 1) ≡ (a && b)
lesser_bit_is_and true true = refl
lesser_bit_is_and true false = refl
lesser_bit_is_and false true = refl
lesser_bit_is_and false false = refl

-- the bits of a range are those of its numbers
pub range_bits : (low high number : ℕ) → low ≤ high → high < 64 → number < 64
    → (bit_at (bit_and ((2 ^ 64 - 1) / 2 ^ (63 - high)) ((2 ^ 64 - 1) * 2 ^ low % 2 ^ 64)) number == 1)
    ≡ (nat_le low number && nat_le number high)
range_bits low high number up small lt =
    let ones : (2 ^ 64 - 1) / 2 ^ (63 - high) ≡ 2 ^ (high + 1) - 1 =
    ones_shr 64 (63 - high) (omega arith)
    ∙ ap (λ (n : ℕ). 2 ^ n - 1) (let e : 64 - (63 - high) ≡ high + 1 = omega (arith, small) in e) in
    let above : (2 ^ 64 - 1) * 2 ^ low % 2 ^ 64 ≡ 2 ^ 64 - 2 ^ low = ones_shl 64 low (omega (arith, up, small)) in
    ap₂ (λ (a b : ℕ). bit_at (bit_and a b) number == 1) ones above
    ∙ ap (λ (n : ℕ). n == 1) (bit_at_and (2 ^ (high + 1) - 1) (2 ^ 64 - 2 ^ low) number
    ∙ ap₂ (λ (a b : ℕ). min a b) (low_bits high number) (high_bits low number lt))
    ∙ lesser_bit_is_and (nat_le low number) (nat_le number high)

one_of : (a b : ℕ) → a < 2 → b < 2 → (max a b == 1) ≡ ((a == 1) || (b == 1))
one_of zero zero p q = refl
one_of zero (suc zero) p q = refl
one_of (suc zero) zero p q = refl
one_of (suc zero) (suc zero) p q = refl
one_of (suc (suc a)) b p q = absurd (omega (arith, p))
one_of zero (suc (suc b)) p q = absurd (omega (arith, q))
one_of (suc zero) (suc (suc b)) p q = absurd (omega (arith, q))

-- the bits of both
pub set_either : (a b number : ℕ) → is_set (bit_or a b) number ≡ (is_set a number || is_set b number)
set_either a b number =
    ap (λ (n : ℕ). n == 1) (bit_at_or a b number) ∙ one_of (bit_at a number) (bit_at b number) (bit_at-lt a number) (bit_at-lt b number)

-- 0 has none
pub set_none : (number : ℕ) → is_set 0 number ≡ false
set_none number = ap (λ (n : ℕ). n == 1) (bit_at-zero number)
