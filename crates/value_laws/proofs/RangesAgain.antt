-- Ranges of numbers from 0 to 63 that were written are read again.
use Rattle.std.proofs.Common.{◌≡◌, ℕ, ◌+◌, ◌<◌, ◌≤◌, Bool, true, false, List, [], ◌∷◌, ◌++◌, length, map, Option, Some}
use Rattle.std.proofs.{Common.{None, refl, ap, ap₂, ◌∙◌, arith, length-append, ⊎_elim}, lemmas.Bool.and_from}
use Rattle.std.proofs.lemmas.{Bool.{and_parts, cases_Bool, eqb-true, le-leb, Decides.nat_tests}, Fmt.decimal_nonempty}
use Rattle.std.proofs.lemmas.List.{Elements.{All-append, All-cons, All-head, All-nil, All-tail}, Folds.list_any_none}
use Rattle.std.specs.{Prelude.{All, ◌==◌, option_and_then, if◌then◌else◌}, Char.is_ascii_digit, Fmt.decimal}
use Rattle.std.specs.{List.join_with_byte, Option.option_map, Str.all_ascii_digits}
use Rattle.dir_bytes.proofs.ReadAgain.{decimal_digits, number-decimal}
use Rattle.dir_values.specs.Versions.{behind, front_of, has_mark}
use Rattle.frame_laws.proofs.WordTexts.{Dark, both_dark, number_dark}
use Rattle.item_terms.specs.Bytes.{comma, hyphen}
use Rattle.list_values.specs.{NumberSets.{Range, numbers_text, range_text, ranges_of, with_number}, Parts.is_comma}
use Rattle.list_values.specs.{Parts.parts_of, Protocols.{all_of, if_small, listed_number, range_between, range_of}}
use Rattle.list_values.specs.Protocols.{ranges_in}
use Rattle.value_laws.proofs.{LineWords.dark_with_commas, Marks.{Lacks, LacksComma, behind_again, front_again}}
use Rattle.value_laws.proofs.Marks.{mark_is_there, parts_again}

-- what a range of such numbers keeps
record IsRange (range : Range) : Type 0 where
  up : range.low ≤ range.high
  last : range.high < 64

-- ---- the ranges of numbers

abbrev IsSmall : ℕ → Type 0
IsSmall number = number < 64

with_range : (number : ℕ) (ranges : List Range) → IsSmall number → All IsRange ranges
    → All IsRange (with_number number ranges)
with_range number [] small each =
    All-cons IsRange (record { low = number; high = number }) [] (record { up = omega arith; last = small }) each
with_range number (first ∷ rest) small each =
    by (number + 1 == first.low) refl (All-head IsRange first rest each)
  where
    by : (b : Bool) → (number + 1 == first.low) ≡ b → IsRange first
        → All IsRange (if b then record { low = number; high = first.high } ∷ rest
        else record { low = number; high = number } ∷ first ∷ rest)
    by true is one =
        let next = eqb-true (number + 1) first.low is in
        let up = one.up in
        All-cons IsRange (record { low = number; high = first.high }) rest
        (record { up = omega (arith, next, up); last = one.last }) (All-tail IsRange first rest each)
    by false is one =
        All-cons IsRange (record { low = number; high = number }) (first ∷ rest)
        (record { up = omega arith; last = small }) each

are_ranges : (numbers : List ℕ) → All IsSmall numbers → All IsRange (ranges_of numbers)
are_ranges [] small = All-nil IsRange
are_ranges (number ∷ rest) small =
    with_range number (ranges_of rest) (All-head IsSmall number rest small)
    (are_ranges rest (All-tail IsSmall number rest small))

-- ---- the text of a range

-- digits have no byte that is none
digits_lack : (q : ℕ → Bool) → ((b : ℕ) → is_ascii_digit b ≡ true → q b ≡ false) → (text : List ℕ)
    → all_ascii_digits text ≡ true → All (λ b. q b ≡ false) text
digits_lack q other [] digits = All-nil (λ b. q b ≡ false)
digits_lack q other (b ∷ text) digits =
    let parts = and_parts (is_ascii_digit b) (all_ascii_digits text) digits in
    All-cons (λ b. q b ≡ false) b text (other b parts.0) (digits_lack q other text parts.1)

no_hyphen : (b : ℕ) → is_ascii_digit b ≡ true → (b == hyphen) ≡ false
no_hyphen b is = grind (arith, nat_tests)

no_comma : (b : ℕ) → is_ascii_digit b ≡ true → is_comma b ≡ false
no_comma b is = grind (arith, nat_tests)

number_lacks : (number : ℕ) → IsSmall number → Lacks hyphen (decimal number)
number_lacks number small =
    digits_lack (λ b. b == hyphen) no_hyphen (decimal number) (decimal_digits number (omega (arith, small)))

number_lacks_comma : (number : ℕ) → IsSmall number → LacksComma (decimal number)
number_lacks_comma number small =
    digits_lack is_comma no_comma (decimal number) (decimal_digits number (omega (arith, small)))

-- what holds of both texts of a range
one_of : (P : List ℕ → Type 0) (range : Range) → P (decimal range.low)
    → P (decimal range.low ++ hyphen ∷ decimal range.high) → P (range_text range)
unfolding range_text
one_of P range single double =
    elim (range.low == range.high)
    as (λ b. P (if b then decimal range.low else decimal range.low ++ hyphen ∷ decimal range.high)) [
      | true ↦ single
      | false ↦ double
    ]

range_lacks_comma : (range : Range) → IsRange range → LacksComma (range_text range)
range_lacks_comma range is =
    let up = is.up in
    let last = is.last in
    let low = number_lacks_comma range.low (omega (arith, up, last)) in
    one_of LacksComma range low
    (All-append (λ b. is_comma b ≡ false) (decimal range.low) (hyphen ∷ decimal range.high) low
    (All-cons (λ b. is_comma b ≡ false) hyphen (decimal range.high) refl (number_lacks_comma range.high last)))

range_dark : (range : Range) → Dark (range_text range)
range_dark range =
    let low = number_dark range.low in
    one_of Dark range low
    (both_dark (decimal range.low) (hyphen ∷ decimal range.high) low (and_from _ _ refl (number_dark range.high)))

abbrev IsFilled : List ℕ → Type 0
IsFilled text = 0 < length text

range_some : (range : Range) → IsRange range → IsFilled (range_text range)
range_some range is =
    let up = is.up in
    let last = is.last in
    let low = decimal_nonempty range.low (omega (arith, up, last)) in
    one_of IsFilled range low (omega (arith, low, length-append (decimal range.low) (hyphen ∷ decimal range.high)))

-- the digits of a number are read as it
number_again : (number : ℕ) → IsSmall number → listed_number (decimal number) ≡ Some number
unfolding listed_number
number_again number small =
    ap (option_and_then if_small) (number-decimal 4294967295 number (omega (arith, small)) (omega (arith, small)))
    ∙ ap (λ (b : Bool). if b then Some number else None) (le-leb number 63 (omega (arith, small)))

-- the text of a range is read as it
range_again : (range : Range) → IsRange range → range_of (range_text range) ≡ Some range
unfolding range_of range_text
range_again range is = ⊎_elim single double (cases_Bool (range.low == range.high))
  where
    low_small : IsSmall range.low
    low_small = let up = is.up in let last = is.last in omega (arith, up, last)

    low : listed_number (decimal range.low) ≡ Some range.low
    low = number_again range.low low_small

    high : listed_number (decimal range.high) ≡ Some range.high
    high = number_again range.high is.last

    both : List ℕ
    both = decimal range.low ++ hyphen ∷ decimal range.high

    lacks : Lacks hyphen (decimal range.low)
    lacks = number_lacks range.low low_small

    single : (range.low == range.high) ≡ true → range_of (range_text range) ≡ Some range
    single same =
        let e : range.low ≡ range.high = eqb-true range.low range.high same in
        let text : range_text range ≡ decimal range.low = rw same refl in
        let none : has_mark hyphen (decimal range.low) ≡ false =
        list_any_none (λ b. b == hyphen) (decimal range.low) lacks in
        let read : range_of (decimal range.low)
        ≡ range_between (listed_number (decimal range.low)) (listed_number (decimal range.low)) = rw none refl in
        ap range_of text ∙ read ∙ ap (λ (o : Option ℕ). range_between o o) low
        ∙ ap (λ (b : Bool). if b then Some (record { low = range.low; high = range.low }) else None)
        (le-leb range.low range.low (omega arith))
        ∙ ap (λ (n : ℕ). Some (record { low = range.low; high = n })) e

    double : (range.low == range.high) ≡ false → range_of (range_text range) ≡ Some range
    double other =
        let text : range_text range ≡ both = rw other refl in
        let some : has_mark hyphen both ≡ true = mark_is_there hyphen (decimal range.low) (decimal range.high) in
        let read : range_of both
        ≡ range_between (listed_number (front_of hyphen both)) (listed_number (behind hyphen both)) = rw some refl in
        ap range_of text ∙ read
        ∙ ap₂ (λ (a b : List ℕ). range_between (listed_number a) (listed_number b))
        (front_again hyphen (decimal range.low) (decimal range.high) lacks)
        (behind_again hyphen (decimal range.low) (decimal range.high) lacks)
        ∙ ap₂ (λ (a b : Option ℕ). range_between a b) low high
        ∙ ap (λ (b : Bool). if b then Some (record { low = range.low; high = range.high }) else None)
        (le-leb range.low range.high is.up)

-- ---- the text of numbers

texts_lack : (ranges : List Range) → All IsRange ranges → All LacksComma (map range_text ranges)
texts_lack [] each = All-nil LacksComma
texts_lack (range ∷ rest) each =
    All-cons LacksComma (range_text range) (map range_text rest)
    (range_lacks_comma range (All-head IsRange range rest each))
    (texts_lack rest (All-tail IsRange range rest each))

all_dark : (ranges : List Range) → All Dark (map range_text ranges)
all_dark [] = All-nil Dark
all_dark (range ∷ rest) = All-cons Dark (range_text range) (map range_text rest) (range_dark range) (all_dark rest)

all_again : (ranges : List Range) → All IsRange ranges → all_of (map range_of (map range_text ranges)) ≡ Some ranges
all_again [] each = refl
all_again (range ∷ rest) each =
    ap (λ (o : Option Range). all_of (o ∷ map range_of (map range_text rest)))
    (range_again range (All-head IsRange range rest each))
    ∙ ap (option_map (λ ranges. range ∷ ranges)) (all_again rest (All-tail IsRange range rest each))

text_some : (range : Range) (rest : List Range) → IsRange range
    → IsFilled (join_with_byte comma (map range_text (range ∷ rest)))
text_some range [] is = range_some range is
text_some range (next ∷ rest) is =
    let some = range_some range is in
    omega (arith, some, length-append (range_text range) (comma ∷ join_with_byte comma (map range_text (next ∷ rest))))

-- the ranges of a text that is not empty are those of its parts
by_parts : (text : List ℕ) → IsFilled text → ranges_in text ≡ all_of (map range_of (parts_of text))
by_parts [] some = absurd (omega (arith, some))
by_parts (b ∷ text) some = refl

ranges_again : (ranges : List Range) → All IsRange ranges
    → ranges_in (join_with_byte comma (map range_text ranges)) ≡ Some ranges
ranges_again [] each = refl
ranges_again (range ∷ rest) each =
    by_parts (join_with_byte comma (map range_text (range ∷ rest)))
    (text_some range rest (All-head IsRange range rest each))
    ∙ ap (λ (l : List (List ℕ)). all_of (map range_of l))
    (parts_again (range_text range) (map range_text rest) (texts_lack (range ∷ rest) each))
    ∙ all_again (range ∷ rest) each

-- the text of numbers spells their ranges
pub numbers_spelled : (numbers : List ℕ) → All (λ (number : ℕ). number < 64) numbers
    → ranges_in (numbers_text numbers) ≡ Some (ranges_of numbers)
numbers_spelled numbers small = ranges_again (ranges_of numbers) (are_ranges numbers small)

-- and its bytes are those of a word
pub numbers_dark : (numbers : List ℕ) → Dark (numbers_text numbers)
numbers_dark numbers = dark_with_commas (map range_text (ranges_of numbers)) (all_dark (ranges_of numbers))
