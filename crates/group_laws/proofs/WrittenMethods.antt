-- Methods that were written with commas between them are read again.
use Rattle.std.proofs.Common.{◌≡◌, ℕ, ◌≤◌, ◌<◌, true, false, List, [], ◌∷◌, length, refl, ap, ◌∙◌, arith, length-append}
use Rattle.std.proofs.{Common.{Option, Some}, lemmas.Bool.{and_from, and_parts, Decides.nat_tests}}
use Rattle.std.proofs.lemmas.List.{Elements.{All-cons, All-head, All-nil, All-tail}, Splits.slice_split_at}
use Rattle.std.{proofs.lemmas.List.Splits.slice_split_none, specs.Prelude.{All, decimal, is_some, map, unwrap_or}}
use Rattle.std.specs.{Char.is_ascii_digit, List.list_all, Str.all_ascii_digits}
use Rattle.dir_bytes.proofs.ReadAgain.{decimal_digits, number-decimal}
use Rattle.dir_values.specs.Numbers.{number_in, number_of}
use Rattle.dirdoc_grammar.specs.Writers.{is_argument}
use Rattle.frame_laws.proofs.WordTexts.{Dark, both_dark, is_word, length-word, number_dark, word_of_number}
use Rattle.item_terms.specs.Bytes.{comma}
use Rattle.relay_entries.specs.{Fields.{are_methods, is_comma, methods_in, parts_of}, Texts.methods_text}

abbrev IsSmall : ℕ → Type 0
IsSmall n = n ≤ 4294967295

-- ---- parts

-- no byte of a text is a comma
abbrev HasNoComma : List ℕ → Type 0
HasNoComma text = All (λ (b : ℕ). is_comma b ≡ false) text

no_comma : (text : List ℕ) → all_ascii_digits text ≡ true → HasNoComma text
no_comma [] digits = All-nil (λ (b : ℕ). is_comma b ≡ false)
no_comma (b ∷ text) digits =
    let parts = and_parts (is_ascii_digit b) (all_ascii_digits text) digits in
    let other : is_comma b ≡ false = is_other b parts.0 in
    All-cons (λ (c : ℕ). is_comma c ≡ false) b text other (no_comma text parts.1)
  where
    is_other : (b : ℕ) → is_ascii_digit b ≡ true → is_comma b ≡ false
    is_other b is = grind (arith, nat_tests)

digits_only : (n : ℕ) → IsSmall n → HasNoComma (decimal n)
digits_only n small = no_comma (decimal n) (decimal_digits n (omega (arith, small)))

-- the parts of the text are the digits of the methods
parts-text : (first : ℕ) (others : List ℕ) → All IsSmall (first ∷ others)
    → parts_of (methods_text (first ∷ others)) ≡ map decimal (first ∷ others)
parts-text first [] small =
    slice_split_none is_comma (decimal first) (digits_only first (All-head IsSmall first [] small))
parts-text first (next ∷ others) small =
    slice_split_at is_comma (decimal first) comma (methods_text (next ∷ others))
    (digits_only first (All-head IsSmall first (next ∷ others) small)) refl
    ∙ ap (λ (l : List (List ℕ)). decimal first ∷ l)
    (parts-text next others (All-tail IsSmall first (next ∷ others) small))

-- ---- numbers

is_read : (n : ℕ) → IsSmall n → number_of (decimal n) ≡ Some n
is_read n small = number-decimal 4294967295 n small (omega (arith, small))

each_spells : (numbers : List ℕ) → All IsSmall numbers
    → list_all (λ (part : List ℕ). is_some (number_of part)) (map decimal numbers) ≡ true
each_spells [] small = refl
each_spells (n ∷ numbers) small =
    and_from _ _ (ap (λ (o : Option ℕ). is_some o) (is_read n (All-head IsSmall n numbers small)))
    (each_spells numbers (All-tail IsSmall n numbers small))

read_back : (numbers : List ℕ) → All IsSmall numbers → map number_in (map decimal numbers) ≡ numbers
read_back [] small = refl
read_back (n ∷ numbers) small =
    ap (λ (o : Option ℕ). unwrap_or o 0 ∷ map number_in (map decimal numbers))
    (is_read n (All-head IsSmall n numbers small))
    ∙ ap (λ (l : List ℕ). n ∷ l) (read_back numbers (All-tail IsSmall n numbers small))

-- the text is one of methods
pub are_methods-text : (methods : List ℕ) → 1 ≤ length methods → All (λ n. n ≤ 4294967295) methods
    → are_methods (methods_text methods) ≡ true
are_methods-text [] some small = absurd (omega (arith, some))
are_methods-text (first ∷ others) some small =
    ap (list_all (λ (part : List ℕ). is_some (number_of part))) (parts-text first others small)
    ∙ each_spells (first ∷ others) small

-- and it spells these
pub methods_in-text : (methods : List ℕ) → 1 ≤ length methods → All (λ n. n ≤ 4294967295) methods
    → methods_in (methods_text methods) ≡ methods
methods_in-text [] some small = absurd (omega (arith, some))
methods_in-text (first ∷ others) some small =
    ap (map number_in) (parts-text first others small) ∙ read_back (first ∷ others) small

-- ---- it is a word

text_dark : (first : ℕ) (others : List ℕ) → Dark (methods_text (first ∷ others))
text_dark first [] = number_dark first
text_dark first (next ∷ others) =
    both_dark (decimal first) (comma ∷ methods_text (next ∷ others)) (number_dark first) (text_dark next others)

text_some : (first : ℕ) (others : List ℕ) → 0 < length (methods_text (first ∷ others))
text_some first [] = length-word (decimal first) (word_of_number first)
text_some first (next ∷ others) =
    omega (
      arith,
      length-word (decimal first) (word_of_number first),
      length-append (decimal first) (comma ∷ methods_text (next ∷ others)),
    )

pub word_of_methods : (methods : List ℕ) → 1 ≤ length methods → is_argument (methods_text methods) ≡ true
word_of_methods [] some = absurd (omega (arith, some))
word_of_methods (first ∷ others) some =
    is_word (methods_text (first ∷ others)) (text_some first others) (text_dark first others)
