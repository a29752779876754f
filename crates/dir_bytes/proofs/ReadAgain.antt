-- What is written is read again.
use Rattle.std.proofs.Common.{◌≡◌, ℕ, suc, ◌+◌, ◌*◌, ◌/◌, ◌%◌, ◌^◌, ◌<◌, ◌≤◌, true, false, List, [], ◌∷◌, ◌++◌, length}
use Rattle.std.proofs.Common.{drop, get_or, refl, ap, ◌∙◌, arith, ℤ, pos, negsuc, unsigned_abs, w32, Some, Result}
use Rattle.std.proofs.lemmas.{Bool.{and_from, and_parts, ne_eqb, Decides.nat_tests}, Fmt.decimal_is_IsNumeral}
use Rattle.std.proofs.lemmas.{Str.Parse.{digit_at, numerals_by_value, tells_all_ascii_digits}, Int.ints}
use Rattle.std.{proofs.lemmas.List.{append_assoc, take_at}, specs.{Prelude.FitsSigned, Char.digit_value}}
use Rattle.std.specs.{Char.is_ascii_digit, Fmt.{decimal, signed_decimal}, List.{position_or_len, before_first}}
use Rattle.std.specs.{List.after_first, Option.option_map, Result.result_ok, Str.{all_ascii_digits, Parse.digits_value}}
use Rattle.std.specs.Str.Parse.{starts_with_minus}
use Rattle.hex.{specs.{declared.error.FromHexError.FromHexError, Hex.encode_upper}, proofs.HexLemmas.decode_sized-twice}
use Rattle.hex.proofs.HexLemmas.{decode_of-encode_upper}
use Rattle.base64.{specs.{Engines.standard_no_pad, GeneralPurpose.IsBytes}, proofs.EngineFacts.decode_of-encode_of}
use Rattle.jiff_core.proofs.CalendarLemmas.{days_in_month_bounds}
use Rattle.dir_bytes.specs.{Causes.last_moment, Fields.{number, signed_number, date, time_of_day, moment, hex, base64}}
use Rattle.dir_bytes.specs.{Fields.{address, address_of, is_dot}, FieldTexts.{date_of, two_digits, date_text}}
use Rattle.dir_bytes.{specs.FieldTexts.{clock_text, hex_text, base64_text, address_text}, proofs.Calendars.day_of-real}
use Rattle.dir_bytes.proofs.{Days.date_of_is, Spelling.length-hex_text, Symbols.base64_if_decoded}

-- a numeral is read as its value
number-numeral : (limit value : ℕ) (text : List ℕ) → 0 < length text → all_ascii_digits text ≡ true → digits_value 10 text ≡ value → value ≤ limit → number limit text ≡ Some value
unfolding number
number-numeral limit value text some digits is within = grind (arith, nat_tests)

-- what a number is written with are digits
pub decimal_digits : (n : ℕ) → n < 2 ^ 64 → all_ascii_digits (decimal n) ≡ true
decimal_digits n fits = (numerals_by_value _ tells_all_ascii_digits).from (decimal n) (decimal_is_IsNumeral n fits).0.1

pub number-decimal : (limit n : ℕ) → n ≤ limit → n < 2 ^ 64 → number limit (decimal n) ≡ Some n
number-decimal limit n within fits =
    let is = decimal_is_IsNumeral n fits in
    number-numeral limit n (decimal n) is.0.0 (decimal_digits n fits) is.1 within

-- digits have no minus before them
no_minus : (n : ℕ) → n < 2 ^ 64 → starts_with_minus (decimal n) ≡ false
no_minus n fits =
    let is = decimal_is_IsNumeral n fits in
    let first = digit_at (decimal n) 0 is.0.1 is.0.0 in
    ne_eqb (get_or (decimal n) 0 0) 45 (λ e. omega (arith, first, e))

pub signed-signed_decimal : (z : ℤ) → FitsSigned w32 z → signed_number (signed_decimal z) ≡ Some z
unfolding signed_number
signed-signed_decimal (pos n) fits =
    let small : n < 2147483648 = omega (arith, ints, fits) in
    rw (no_minus n (omega arith)) (ap (option_map pos) (number-decimal 2147483647 n (omega arith) (omega arith)))
signed-signed_decimal (negsuc n) fits =
    let small : suc n ≤ 2147483648 = omega (arith, ints, fits) in
    ap (option_map _) (number-decimal 2147483648 (suc n) small (omega arith))

-- a digit of a number below ten
digit_is : (n : ℕ) → n < 10 → (is_ascii_digit (48 + n) ≡ true) × (digit_value (48 + n) ≡ n)
digit_is n small = (grind (arith, nat_tests), grind (arith, nat_tests))

number-two_digits : (limit n : ℕ) → n < 100 → n ≤ limit → number limit (two_digits n) ≡ Some n
number-two_digits limit n small within =
    let high = digit_is (n / 10) (omega arith) in
    let low = digit_is (n % 10) (omega arith) in
    number-numeral limit n (two_digits n) (omega arith) (and_from _ _ high.0 (and_from _ _ low.0 refl))
    (omega (arith, high.1, low.1)) within

number-four_digits : (n : ℕ) → n ≤ 9999 → number 9999 (two_digits (n / 100) ++ two_digits (n % 100)) ≡ Some n
number-four_digits n within =
    let a = digit_is (n / 100 / 10) (omega arith) in
    let b = digit_is (n / 100 % 10) (omega arith) in
    let c = digit_is (n % 100 / 10) (omega arith) in
    let d = digit_is (n % 100 % 10) (omega arith) in
    number-numeral 9999 n (two_digits (n / 100) ++ two_digits (n % 100)) (omega arith)
    (and_from _ _ a.0 (and_from _ _ b.0 (and_from _ _ c.0 (and_from _ _ d.0 refl))))
    (omega (arith, a.1, b.1, c.1, d.1)) within

pub date-date_text : (day : ℕ) → day ≤ 2932896 → date (date_text day) ≡ Some day
unfolding date date_text
date-date_text n within =
    let is = date_of_is n within in
    let civil = date_of n in
    let year = number-four_digits civil.year (omega (arith, ints, is.real.0)) in
    let month = number-two_digits 99 civil.month (omega (arith, is.real.1)) (omega (arith, is.real.1)) in
    let long = days_in_month_bounds (pos civil.year) civil.month in
    let day = number-two_digits 99 civil.day (omega (arith, is.real.2, long)) (omega (arith, is.real.2, long)) in
    rw (year, month, day) (day_of-real civil.year civil.month civil.day is.late is.real ∙ ap (λ (z : ℤ). Some (unsigned_abs z)) is.number)

pub time_of_day-clock_text : (second : ℕ) → second < 86400 → time_of_day (clock_text second) ≡ Some second
unfolding time_of_day clock_text
time_of_day-clock_text s within =
    let hour = number-two_digits 23 (s / 3600) (omega arith) (omega arith) in
    let minute = number-two_digits 59 (s / 60 % 60) (omega arith) (omega arith) in
    let second = number-two_digits 59 (s % 60) (omega arith) (omega arith) in
    let sum : 3600 * (s / 3600) + 60 * (s / 60 % 60) + s % 60 ≡ s = omega arith in
    rw (hour, minute, second) (ap Some sum)

pub moment-moment_text : (m : ℕ) → m ≤ last_moment → moment (date_text (m / 86400)) (clock_text (m % 86400)) ≡ Some m
moment-moment_text m within =
    let sum : 86400 * (m / 86400) + m % 86400 ≡ m = omega arith in
    rw (date-date_text (m / 86400) (omega arith), time_of_day-clock_text (m % 86400) (omega arith)) (ap Some sum)

pub hex-hex_text : (bytes : List ℕ) → IsBytes bytes → hex (length bytes) (hex_text bytes) ≡ Some bytes
unfolding hex hex_text
hex-hex_text bytes fits =
    ap (λ (r : Result (List ℕ) FromHexError). result_ok r) (decode_sized-twice (encode_upper bytes) (length bytes) (length-hex_text bytes) ∙ decode_of-encode_upper bytes fits)

pub base64-base64_text : (bytes : List ℕ) → IsBytes bytes → base64 (length bytes) (base64_text bytes) ≡ Some bytes
unfolding base64_text
base64-base64_text bytes fits =
    base64_if_decoded (length bytes) (base64_text bytes) bytes (decode_of-encode_of standard_no_pad bytes refl fits) refl

-- the first dot stands behind the digits
dot_behind : (xs ys : List ℕ) → all_ascii_digits xs ≡ true → position_or_len is_dot (xs ++ 46 ∷ ys) ≡ length xs
dot_behind [] ys digits = refl
dot_behind (x ∷ xs) ys digits =
    let parts = and_parts (is_ascii_digit x) (all_ascii_digits xs) digits in
    let other : is_dot x ≡ false = grind (arith, nat_tests) in
    let rest = dot_behind xs ys parts.1 in
    rw other (omega (arith, rest))

before-dot : (xs ys : List ℕ) → all_ascii_digits xs ≡ true → before_first is_dot (xs ++ 46 ∷ ys) ≡ xs
before-dot xs ys digits = rw (dot_behind xs ys digits) (take_at xs (46 ∷ ys) (length xs) refl)

past_dot : (xs ys : List ℕ) → drop (length xs + 1) (xs ++ 46 ∷ ys) ≡ ys
past_dot [] ys = refl
past_dot (x ∷ xs) ys = let e : length (x ∷ xs) + 1 ≡ suc (length xs + 1) = omega arith in rw e (past_dot xs ys)

after-dot : (xs ys : List ℕ) → all_ascii_digits xs ≡ true → after_first is_dot (xs ++ 46 ∷ ys) ≡ ys
after-dot xs ys digits = rw (dot_behind xs ys digits) (past_dot xs ys)

-- four texts of digits with dots between them
address-parts : (a b c d : List ℕ) → all_ascii_digits a ≡ true → all_ascii_digits b ≡ true → all_ascii_digits c ≡ true
    → address (a ++ 46 ∷ (b ++ 46 ∷ (c ++ 46 ∷ d))) ≡ address_of (number 255 a) (number 255 b) (number 255 c) (number 255 d)
unfolding address
address-parts a b c d first second third =
    let last = c ++ 46 ∷ d in
    let later = b ++ 46 ∷ last in
    rw (before-dot a later first, after-dot a later first, before-dot b last second, after-dot b last second, before-dot c d third, after-dot c d third) refl

pub address-address_text : (x : ℕ) → x < 2 ^ 32 → address (address_text x) ≡ Some x
unfolding address_text
address-address_text x fits =
    let a = x / 16777216 in
    let b = x / 65536 % 256 in
    let c = x / 256 % 256 in
    let d = x % 256 in
    let small : (a ≤ 255) × (b ≤ 255) × (c ≤ 255) × (d ≤ 255) = (omega arith, omega arith, omega arith, omega arith) in
    let whole : ((a * 256 + b) * 256 + c) * 256 + d ≡ x = omega arith in
    let shape : address_text x ≡ decimal a ++ 46 ∷ (decimal b ++ 46 ∷ (decimal c ++ 46 ∷ decimal d)) = simp append_assoc in
    ap address shape
    ∙ address-parts (decimal a) (decimal b) (decimal c) (decimal d) (decimal_digits a (omega arith)) (decimal_digits b (omega arith)) (decimal_digits c (omega arith))
    ∙ rw (number-decimal 255 a small.0 (omega arith), number-decimal 255 b small.1 (omega arith), number-decimal 255 c small.2 (omega arith), number-decimal 255 d small.3 (omega arith)) (ap Some whole)
