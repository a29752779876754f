-- Which texts are hex digits, two for each byte.
use Rattle.std.proofs.Common.{◌≡◌, ℕ, ◌*◌, ◌/◌, ◌%◌, ◌-◌, Bool, true, false, cond, ◌&&◌, ◌||◌, List, [], ◌∷◌, length}
use Rattle.std.proofs.Common.{Some, None, is_some, Result, Ok, Err, is_ok, refl, sym, ap, ◌∙◌, arith}
use Rattle.std.proofs.lemmas.{Bool.false≢true, List.Sums.{AllPass-from_list_all, list_all-from_AllPass}}
use Rattle.std.specs.{List.list_all, Result.result_ok, Char.is_ascii_hexdigit, Int.is_in_range}
use Rattle.hex.specs.{declared.error.FromHexError.FromHexError, Hex.{decode_sized, is_hex_digit}}
use Rattle.hex.proofs.HexLemmas.{IsOk-decode_sized, decode_sized-odd}
use Rattle.dir_bytes.specs.{Fields.hex, HexBytes.hex_bytes}

digit_by : (upper lower digit : Bool) (x y z : ℕ)
    → ((digit || upper) || lower) ≡ is_some (cond upper (Some x) (cond lower (Some y) (cond digit (Some z) None)))
digit_by true true true x y z = refl
digit_by true true false x y z = refl
digit_by true false true x y z = refl
digit_by true false false x y z = refl
digit_by false true true x y z = refl
digit_by false true false x y z = refl
digit_by false false true x y z = refl
digit_by false false false x y z = refl

-- std's test of a hex digit is that of `hex`
same_digit : (c : ℕ) → is_ascii_hexdigit c ≡ is_hex_digit c
same_digit c = digit_by (is_in_range 65 70 c) (is_in_range 97 102 c) (is_in_range 48 57 c) (c - 55) (c - 87) (c - 48)

same_digits : (text : List ℕ) → list_all is_ascii_hexdigit text ≡ list_all is_hex_digit text
same_digits [] = refl
same_digits (c ∷ rest) = ap (λ (b : Bool). b && list_all is_ascii_hexdigit rest) (same_digit c) ∙ ap (λ (b : Bool). is_hex_digit c && b) (same_digits rest)

some_is_ok : (r : Result (List ℕ) FromHexError) → is_some (result_ok r) ≡ is_ok r
some_is_ok (Ok bytes) = refl
some_is_ok (Err e) = refl

no_digits : (o : Bool) (text : List ℕ) → is_ok (decode_sized text (length text / 2)) ≡ o → list_all is_hex_digit text ≡ false → false ≡ o
no_digits false text e f = refl
no_digits true text e f =
    absurd (false≢true (sym f ∙ list_all-from_AllPass is_hex_digit text ((IsOk-decode_sized text (length text / 2)).0 e).1))

even_by : (b : Bool) (text : List ℕ) → list_all is_hex_digit text ≡ b → length text % 2 ≡ 0 → b ≡ is_ok (decode_sized text (length text / 2))
even_by true text e even =
    sym ((IsOk-decode_sized text (length text / 2)).1 (omega (arith, even), AllPass-from_list_all is_hex_digit text e))
even_by false text e even = no_digits (is_ok (decode_sized text (length text / 2))) text refl e

-- a text of an even number of hex digits spells bytes
pub even : (text : List ℕ) → length text % 2 ≡ 0 → list_all is_ascii_hexdigit text ≡ is_some (hex_bytes text)
unfolding hex
even text is_even = same_digits text ∙ even_by _ text refl is_even ∙ sym (some_is_ok (decode_sized text (length text / 2)))

-- another spells none
pub odd : (text : List ℕ) → length text % 2 ≡ 1 → false ≡ is_some (hex_bytes text)
unfolding hex
odd text is_odd =
    sym (ap (λ (r : Result (List ℕ) FromHexError). is_some (result_ok r)) (decode_sized-odd text (length text / 2) is_odd))

pub ruleset hex_digits = (even, odd)
