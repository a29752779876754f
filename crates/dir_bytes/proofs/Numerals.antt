-- Digits read from the left.
use Rattle.std.proofs.Common.{◌≡◌, ℕ, zero, suc, ◌+◌, ◌*◌, ◌/◌, ◌-◌, ◌<◌, ◌≤◌, ◌⊎◌, ◌&&◌, true, false, List, [], ◌∷◌}
use Rattle.std.proofs.{Common.{None, get_or, length, take, arith, take_all}, lemmas.Bool.{and_left, and_right}}
use Rattle.std.proofs.lemmas.{Bool.{and_parts, and_from, Decides.nat_tests}, Str.digit_value_digit}
use Rattle.std.{proofs.lemmas.{Str.Parse.digits_value-take-le, Int.Digits.digits_value_more}, specs.Char.digit_value}
use Rattle.std.specs.{Char.is_ascii_digit, Str.{all_ascii_digits, Parse.digits_value}}
use Rattle.dir_bytes.specs.Fields.{number}

-- what a digit is, and its value
pub digit_parts : (byte : ℕ) → is_ascii_digit byte ≡ true → (digit_value byte ≡ byte - 48) × (48 ≤ byte) × (byte ≤ 57)
digit_parts byte h = grind (arith, nat_tests)

-- a text with a byte that is no digit is no numeral
pub no_digits : (text : List ℕ) (i : ℕ) → i < length text → is_ascii_digit (get_or text i 0) ≡ false → all_ascii_digits text ≡ false
no_digits [] i lt h = absurd (omega arith)
no_digits (byte ∷ text) zero lt h = and_left (is_ascii_digit byte) (all_ascii_digits text) h
no_digits (byte ∷ text) (suc i) lt h = and_right (is_ascii_digit byte) (all_ascii_digits text) (no_digits text i (omega arith) h)

-- a numeral goes on with a digit
pub digits_go_on : (text : List ℕ) (i : ℕ) → i < length text → all_ascii_digits (take i text) ≡ true → is_ascii_digit (get_or text i 0) ≡ true
    → all_ascii_digits (take (i + 1) text) ≡ true
digits_go_on [] i lt h d = absurd (omega arith)
digits_go_on (byte ∷ text) zero lt h d = grind arith
digits_go_on (byte ∷ text) (suc i) lt h d =
    let parts = and_parts (is_ascii_digit byte) (all_ascii_digits (take i text)) h in
    let next : suc i + 1 ≡ suc (i + 1) = omega arith in
    rw next (and_from (is_ascii_digit byte) (all_ascii_digits (take (i + 1) text)) parts.0 (digits_go_on text i (omega arith) parts.1 d))

-- no number is read of a text with another byte
pub none_if_no_digit : (limit : ℕ) (text : List ℕ) (i : ℕ) → i < length text → is_ascii_digit (get_or text i 0) ≡ false → number limit text ≡ None
unfolding number
none_if_no_digit limit text i lt h = let no = no_digits text i lt h in grind (arith, nat_tests)

-- nor of one whose front spells too much
pub none_if_too_much : (limit : ℕ) (text : List ℕ) (i value : ℕ) → i < length text → value ≡ digits_value 10 (take i text)
    → limit < value * 10 + digit_value (get_or text i 0) → number limit text ≡ None
unfolding number
none_if_too_much limit text i value lt is much =
    let front : value * 10 + digit_value (get_or text i 0) ≤ digits_value 10 text =
    omega (arith, is, digits_value_more 10 text i lt, digits_value-take-le 10 text (i + 1) (omega arith)) in
    grind (arith, nat_tests)

pub ruleset numbers = (digit_value_digit, digits_value_more, take_all, none_if_no_digit, none_if_too_much, digits_go_on)
