-- A number that was read is written in no more digits.
use Rattle.std.proofs.Common.{◌≡◌, ℕ, zero, suc, ◌+◌, ◌<◌, ◌≤◌, Bool, true, false, List, length, drop, Option, Some}
use Rattle.std.proofs.{Common.{None, ℤ, pos, refl, subst, arith}, lemmas.Bool.{and_parts, leb-true, ltb-true}}
use Rattle.std.proofs.lemmas.{Fmt.length-decimal-le, List.length-drop, Str.Parse.digits_value_short}
use Rattle.std.{proofs.lemmas.Str.Parse.{numerals_by_value, tells_all_ascii_digits}, specs.Prelude.{◌&&◌, ◌^◌, nat_le}}
use Rattle.std.specs.{Prelude.{nat_lt, neg_ℤ, option_map, if◌then◌else◌}, Fmt.{decimal, signed_decimal}}
use Rattle.std.specs.Str.{all_ascii_digits, Parse.{digits_value, starts_with_minus}}
use Rattle.dir_bytes.specs.Fields.{is_numeral, number, signed_number}

same_some : (a b : ℕ) → Some a ≡ Some b → a ≡ b
same_some a b is = cc

-- the number that digits spell
pub number_spelled : (limit : ℕ) (text : List ℕ) (n : ℕ) → limit < 2 ^ 64 → number limit text ≡ Some n
    → (length (decimal n) ≤ length text) × (0 < length text)
unfolding number
number_spelled limit text n small is = by (is_numeral text && nat_le (digits_value 10 text) limit) refl is
  where
    value : ℕ
    value = digits_value 10 text

    by : (t : Bool) → (is_numeral text && nat_le value limit) ≡ t → (if t then Some value else None) ≡ Some n
        → (length (decimal n) ≤ length text) × (0 < length text)
    by true test e =
        let parts = and_parts (is_numeral text) (nat_le value limit) test in
        let numeral = and_parts (nat_lt 0 (length text)) (all_ascii_digits text) parts.0 in
        let some = ltb-true 0 (length text) numeral.0 in
        let few = leb-true value limit parts.1 in
        let below =
        digits_value_short (numerals_by_value (λ ds. all_ascii_digits ds ≡ true) tells_all_ascii_digits) text
        (length text) numeral.1 (omega arith) in (
          subst (λ (k : ℕ). length (decimal k) ≤ length text) (same_some value n e)
              (length-decimal-le (length text) value some below (omega (arith, few, small))),
          some,
        )
    by false test e = absurd (cc e)

-- the number that a sign and digits spell
negative : (n k : ℕ) → length (decimal n) ≤ k → 0 < k → length (signed_decimal (neg_ℤ (pos n))) ≤ k + 1
negative zero k few some = omega (arith, few)
negative (suc n) k few some = omega (arith, few)

pub signed_spelled : (text : List ℕ) (z : ℤ) → signed_number text ≡ Some z
    → (length (signed_decimal z) ≤ length text) × (0 < length text)
unfolding signed_number
signed_spelled text z is =
    by (starts_with_minus text) (number 2147483648 (drop 1 text)) refl (number 2147483647 text) refl is
  where
    same_z : (a b : ℤ) → Some a ≡ Some b → a ≡ b
    same_z a b e = cc

    Fits : ℤ → Type 0
    Fits z = (length (signed_decimal z) ≤ length text) × (0 < length text)

    by : (minus : Bool) (a : Option ℕ) → number 2147483648 (drop 1 text) ≡ a → (b : Option ℕ)
        → number 2147483647 text ≡ b
        → (if minus then option_map (λ n. neg_ℤ (pos n)) a else option_map pos b) ≡ Some z → Fits z
    by true (Some n) is b too e =
        let short = number_spelled 2147483648 (drop 1 text) n (omega arith) is in
        let rest = length-drop 1 text in
        let text_some : 0 < length text = omega (arith, short.1, rest) in
        let few = negative n (length (drop 1 text)) short.0 short.1 in
        subst Fits (same_z (neg_ℤ (pos n)) z e) (omega (arith, few, rest, text_some), text_some)
    by true None is b too e = absurd (cc e)
    by false a is (Some n) too e =
        subst Fits (same_z (pos n) z e) (number_spelled 2147483647 text n (omega arith) too)
    by false a is None too e = absurd (cc e)
