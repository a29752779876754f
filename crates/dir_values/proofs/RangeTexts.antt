-- The text of a range of ports, and that it is read as the range.
use Rattle.std.proofs.Common.{◌≡◌, ℕ, suc, ◌+◌, ◌^◌, ◌<◌, ◌≤◌, Bool, true, false, List, [], ◌∷◌, ◌++◌, length, take}
use Rattle.std.proofs.Common.{drop, refl, ap, ◌∙◌, arith, Some, None, Option, length-append, ⊎_elim}
use Rattle.std.proofs.lemmas.Bool.{and_parts, cases_Bool, eqb-true, le-leb, ne_eqb, Decides.nat_tests}
use Rattle.std.proofs.lemmas.{Fmt.{decimal_is_IsNumeral, decimal_nonempty}, Str.Parse.numerals_by_value}
use Rattle.std.proofs.lemmas.{Str.Parse.tells_all_ascii_digits, List.{take_at, Elements.{All-nil, All-cons, All-head}}}
use Rattle.std.{proofs.lemmas.List.{Elements.{All-tail, All-append}, Folds.list_any_none}, specs.Prelude.{nat_le, ◌==◌}}
use Rattle.std.specs.{Prelude.{◌||◌, option_and_then, if◌then◌else◌, All}, Char.is_ascii_digit, Fmt.decimal}
use Rattle.std.specs.{List.{list_any, position_or_len, before_first, after_first}, Str.all_ascii_digits}
use Rattle.dir_bytes.proofs.ReadAgain.{number-decimal}
use Rattle.item_terms.specs.{Bytes.hyphen, Words.is_blank}
use Rattle.dir_values.specs.{declared.port_range.PortRange.PortRange, Ports.{is_comma, is_hyphen, last_port}}
use Rattle.dir_values.specs.Ports.{unless_zero, listed_port, range_between, range_of, range_text}

-- the text of a number is digits
digits_of : (n : ℕ) → n < 2 ^ 64 → all_ascii_digits (decimal n) ≡ true
digits_of n fits = (numerals_by_value _ tells_all_ascii_digits).from (decimal n) (decimal_is_IsNumeral n fits).0.1

-- digits have no byte that is none
digits_lack : (p : ℕ → Bool) → ((byte : ℕ) → is_ascii_digit byte ≡ true → p byte ≡ false) → (text : List ℕ)
    → all_ascii_digits text ≡ true → All (λ b. p b ≡ false) text
digits_lack p other [] digits = All-nil (λ b. p b ≡ false)
digits_lack p other (byte ∷ text) digits =
    let parts = and_parts (is_ascii_digit byte) (all_ascii_digits text) digits in
    All-cons (λ b. p b ≡ false) byte text (other byte parts.0) (digits_lack p other text parts.1)

-- a hyphen, a comma and a blank are no digits
no_hyphen : (byte : ℕ) → is_ascii_digit byte ≡ true → is_hyphen byte ≡ false
no_hyphen byte digit = grind (arith, nat_tests)

pub no_comma : (byte : ℕ) → is_ascii_digit byte ≡ true → is_comma byte ≡ false
no_comma byte digit = grind (arith, nat_tests)

pub no_blank : (byte : ℕ) → is_ascii_digit byte ≡ true → is_blank byte ≡ false
no_blank byte digit = grind (arith, nat_tests)

-- What a range of ports keeps.
pub record IsRange (range : PortRange) : Type 0 where
  pub one : 1 ≤ range.low
  pub up : range.low ≤ range.high
  pub last : range.high ≤ last_port

-- a byte that is no digit and no hyphen stands not in the text of a range
pub range_lacks : (p : ℕ → Bool) → ((byte : ℕ) → is_ascii_digit byte ≡ true → p byte ≡ false) → p hyphen ≡ false
    → (range : PortRange) → IsRange range → All (λ b. p b ≡ false) (range_text range)
unfolding range_text
range_lacks p other dash range is =
    let up = is.up in
    let last = is.last in
    let low = digits_lack p other (decimal range.low) (digits_of range.low (omega (arith, up, last))) in
    let high = digits_lack p other (decimal range.high) (digits_of range.high (omega (arith, up, last))) in
    elim (range.low == range.high)
    as (λ b. All (λ b. p b ≡ false)
    (if b then decimal range.low else decimal range.low ++ hyphen ∷ decimal range.high)) [
      | true ↦ low
      | false ↦ All-append (λ b. p b ≡ false) (decimal range.low) (hyphen ∷ decimal range.high) low
          (All-cons (λ b. p b ≡ false) hyphen (decimal range.high) dash high)
    ]

-- which is not empty
pub range_some : (range : PortRange) → IsRange range → 0 < length (range_text range)
unfolding range_text
range_some range is =
    let up = is.up in
    let last = is.last in
    let low = decimal_nonempty range.low (omega (arith, up, last)) in
    elim (range.low == range.high)
    as (λ b. 0 < length (if b then decimal range.low else decimal range.low ++ hyphen ∷ decimal range.high)) [
      | true ↦ low
      | false ↦ omega (arith, low, length-append (decimal range.low) (hyphen ∷ decimal range.high))
    ]

-- the text of a port is read as it
port_again : (n : ℕ) → 1 ≤ n → n ≤ 65535 → listed_port (decimal n) ≡ Some n
unfolding listed_port
port_again n one last =
    let read : listed_port (decimal n) ≡ option_and_then unless_zero (Some n) =
    ap (option_and_then unless_zero) (number-decimal 65535 n last (omega arith)) in
    let other : (n == 0) ≡ false = ne_eqb n 0 (λ e. omega (arith, e)) in
    read ∙ ap (λ (b : Bool). if b then None else Some n) other

-- the first byte that passes stands behind those that do not
position_of_first_passing : (p : ℕ → Bool) (xs ys : List ℕ) (y : ℕ) → All (λ b. p b ≡ false) xs → p y ≡ true
    → position_or_len p (xs ++ y ∷ ys) ≡ length xs
position_of_first_passing p [] ys y lacks is = rw is refl
position_of_first_passing p (x ∷ xs) ys y lacks is =
    let other : p x ≡ false = All-head (λ b. p b ≡ false) x xs lacks in
    let rest = position_of_first_passing p xs ys y (All-tail (λ b. p b ≡ false) x xs lacks) is in
    rw other (omega (arith, rest))

-- and what stands behind it is what follows
past : (xs ys : List ℕ) (y : ℕ) → drop (length xs + 1) (xs ++ y ∷ ys) ≡ ys
past [] ys y = refl
past (x ∷ xs) ys y = let e : length (x ∷ xs) + 1 ≡ suc (length xs + 1) = omega arith in rw e (past xs ys y)

-- a byte that passes is found
has_one : (p : ℕ → Bool) (xs ys : List ℕ) (y : ℕ) → p y ≡ true → list_any p (xs ++ y ∷ ys) ≡ true
has_one p [] ys y is = rw is refl
has_one p (x ∷ xs) ys y is =
    elim (p x) as (λ b. (b || list_any p (xs ++ y ∷ ys)) ≡ true) [ true ↦ refl | false ↦ has_one p xs ys y is ]

-- the text of a range is read as it
pub range_again : (range : PortRange) → IsRange range → range_of (range_text range) ≡ Some range
unfolding range_of range_text
range_again range is =
    let one = is.one in
    let up = is.up in
    let last = is.last in
    let low = digits_lack is_hyphen no_hyphen (decimal range.low) (digits_of range.low (omega (arith, up, last))) in
    let low_again = port_again range.low one (omega (arith, up, last)) in
    let high_again = port_again range.high (omega (arith, one, up)) last in
    let single : (range.low == range.high) ≡ true → range_of (range_text range) ≡ Some range = λ same.
    let e : range.low ≡ range.high = eqb-true range.low range.high same in
    let none : list_any is_hyphen (decimal range.low) ≡ false = list_any_none is_hyphen (decimal range.low) low in
    let within : nat_le range.low range.low ≡ true = le-leb range.low range.low (omega arith) in
    let text : range_text range ≡ decimal range.low = rw same refl in
    let read : range_of (decimal range.low)
    ≡ range_between (listed_port (decimal range.low)) (listed_port (decimal range.low)) = rw none refl in
    ap range_of text ∙ read ∙ ap (λ (o : Option ℕ). range_between o o) low_again
    ∙ ap (λ (b : Bool). if b then Some (record { low = range.low; high = range.low }) else None) within
    ∙ ap (λ (n : ℕ). Some (record { low = range.low; high = n })) e in
    let double : (range.low == range.high) ≡ false → range_of (range_text range) ≡ Some range = λ other.
    let text : range_text range ≡ decimal range.low ++ hyphen ∷ decimal range.high = rw other refl in
    let both = decimal range.low ++ hyphen ∷ decimal range.high in
    let some : list_any is_hyphen both ≡ true =
    has_one is_hyphen (decimal range.low) (decimal range.high) hyphen refl in
    let place : position_or_len is_hyphen both ≡ length (decimal range.low) =
    position_of_first_passing is_hyphen (decimal range.low) (decimal range.high) hyphen low refl in
    let front : before_first is_hyphen both ≡ decimal range.low =
    ap (λ (n : ℕ). take n both) place
    ∙ take_at (decimal range.low) (hyphen ∷ decimal range.high) (length (decimal range.low)) refl in
    let back : after_first is_hyphen both ≡ decimal range.high =
    ap (λ (n : ℕ). drop (n + 1) both) place ∙ past (decimal range.low) (decimal range.high) hyphen in
    let within : nat_le range.low range.high ≡ true = le-leb range.low range.high up in
    let read : range_of both
    ≡ range_between (listed_port (before_first is_hyphen both)) (listed_port (after_first is_hyphen both)) =
    rw some refl in
    ap range_of text ∙ read
    ∙ ap (λ (t : List ℕ). range_between (listed_port t) (listed_port (after_first is_hyphen both))) front
    ∙ ap (λ (t : List ℕ). range_between (listed_port (decimal range.low)) (listed_port t)) back
    ∙ ap (λ (o : Option ℕ). range_between o (listed_port (decimal range.high))) low_again
    ∙ ap (λ (o : Option ℕ). range_between (Some range.low) o) high_again
    ∙ ap (λ (b : Bool). if b then Some (record { low = range.low; high = range.high }) else None) within in
    ⊎_elim single double (cases_Bool (range.low == range.high))
