-- The bytes of numbers and addresses, and where the last of a byte stands in a text.
use Rattle.std.proofs.Common.{◌≡◌, ℕ, suc, ◌+◌, ◌-◌, ◌/◌, ◌%◌, ◌<◌, ◌^◌, Bool, true, false, List, [], ◌∷◌, ◌++◌, length}
use Rattle.std.proofs.Common.{take, drop, get_or, refl, sym, ap, ◌∙◌, arith, append_assoc, length-append}
use Rattle.std.proofs.{Math.Seq.get_or-append_seam, lemmas.Bool.{and_from, and_parts, lt-ltb, Decides.nat_tests}}
use Rattle.std.proofs.lemmas.List.{take_at, drop_at, get_or-append-add, Folds.list_all-append, Sums.suffix_len_is}
use Rattle.std.specs.{Prelude.{decimal, nat_le, nat_lt, nat_eq, ◌==◌, ◌&&◌, ◌||◌, not}, List.list_all}
use Rattle.std.specs.{Str.all_ascii_digits, Char.is_ascii_digit}
use Rattle.dir_bytes.{specs.FieldTexts.address_text, proofs.ReadAgain.decimal_digits}
use Rattle.frame_laws.proofs.WordTexts.{at_index}
use Rattle.dirdoc_grammar.specs.Writers.{is_argument_byte}
use Rattle.exit_summary.specs.PolicyItems.{after_len, after_last, before_last, has_last, is_hyphen, slash, colon}

-- ---- bytes

-- a digit or a dot
abbrev pub is_plain : ℕ → Bool
is_plain b = (nat_le 48 b && nat_le b 57) || (b == 46)

-- a byte is not another
abbrev pub lacks : ℕ → ℕ → Bool
lacks byte other = not (other == byte)

abbrev pub Plain : List ℕ → Type 0
Plain text = list_all is_plain text ≡ true

pub plain_digit : (b : ℕ) → is_ascii_digit b ≡ true → is_plain b ≡ true
plain_digit b is = grind (arith, nat_tests)

pub plain_argument : (b : ℕ) → is_plain b ≡ true → is_argument_byte b ≡ true
plain_argument b is = grind (arith, nat_tests)

pub no_slash : (b : ℕ) → is_plain b ≡ true → lacks slash b ≡ true
no_slash b is = grind (arith, nat_tests)

pub no_colon : (b : ℕ) → is_plain b ≡ true → lacks colon b ≡ true
no_colon b is = grind (arith, nat_tests)

pub no_hyphen : (b : ℕ) → is_plain b ≡ true → is_hyphen b ≡ false
no_hyphen b is = grind (arith, nat_tests)

pub no_star : (b : ℕ) → is_plain b ≡ true → nat_eq b 42 ≡ false
no_star b is = grind (arith, nat_tests)

pub no_bracket : (b : ℕ) → is_plain b ≡ true → (b == 91) ≡ false
no_bracket b is = grind (arith, nat_tests)

pub digits_plain : (text : List ℕ) → all_ascii_digits text ≡ true → Plain text
digits_plain [] digits = refl
digits_plain (b ∷ text) digits =
    let parts = and_parts (is_ascii_digit b) (all_ascii_digits text) digits in
    and_from (is_plain b) (list_all is_plain text) (plain_digit b parts.0) (digits_plain text parts.1)

-- the digits of a number
pub decimal_plain : (n : ℕ) → n < 2 ^ 64 → Plain (decimal n)
decimal_plain n fits = digits_plain (decimal n) (decimal_digits n fits)

pub both_plain : (a b : List ℕ) → Plain a → Plain b → Plain (a ++ b)
both_plain a b first second = list_all-append is_plain a b ∙ and_from _ _ first second

-- an address
pub address_plain : (ip : ℕ) → ip < 2 ^ 32 → Plain (address_text ip)
unfolding address_text
address_plain ip fits =
    let a = decimal (ip / 16777216) in
    let b = decimal (ip / 65536 % 256) in
    let c = decimal (ip / 256 % 256) in
    let d = decimal (ip % 256) in
    let shape : address_text ip ≡ a ++ 46 ∷ (b ++ 46 ∷ (c ++ 46 ∷ d)) = simp append_assoc in
    let third = c ++ 46 ∷ d in
    let second = b ++ 46 ∷ third in
    let last = both_plain c (46 ∷ d) (decimal_plain (ip / 256 % 256) (omega arith)) (decimal_plain (ip % 256) (omega arith)) in
    let later = both_plain b (46 ∷ third) (decimal_plain (ip / 65536 % 256) (omega arith)) last in
    let all = both_plain a (46 ∷ second) (decimal_plain (ip / 16777216) (omega (arith, fits))) later in
    ap (list_all is_plain) shape ∙ all

-- ---- the last of a byte

-- a byte is itself
pub itself : (byte : ℕ) → lacks byte byte ≡ false
itself byte = grind (arith, nat_tests)

-- a number is not below itself
pub not_below : (n : ℕ) → nat_lt n n ≡ false
not_below n = grind (arith, nat_tests)

-- where a byte stands behind which no other does, what stands behind it is all that does
pub after_len_is : (byte : ℕ) (front back : List ℕ) → list_all (lacks byte) back ≡ true
    → after_len byte (front ++ byte ∷ back) ≡ length back
after_len_is byte front back none =
    let text = front ++ byte ∷ back in
    let n = length front + 1 in
    let size : length text ≡ length front + (1 + length back) = omega (arith, length-append front (byte ∷ back)) in
    suffix_len_is (lacks byte) text n 0 (omega (arith, size))
    (λ k from within.
    let i = k - n in
    let place : k ≡ length front + suc i = omega (arith, from) in
    ap (λ (j : ℕ). lacks byte (get_or text j 0)) place
    ∙ ap (lacks byte) (get_or-append-add front (byte ∷ back) (suc i) 0)
    ∙ at_index (lacks byte) back i 0 (omega (arith, from, within, size)) none)
    (λ some.
    let one : n - 1 ≡ length front = omega arith in
    ap (λ (j : ℕ). lacks byte (get_or text j 0)) one ∙ ap (lacks byte) (get_or-append_seam front byte back 0)
    ∙ itself byte)
    ∙ omega (arith, size)

-- a text without it
pub after_len_none : (byte : ℕ) (text : List ℕ) → list_all (lacks byte) text ≡ true → after_len byte text ≡ length text
after_len_none byte text none =
    suffix_len_is (lacks byte) text 0 0 (omega arith) (λ k from within. at_index (lacks byte) text k 0 within none)
    (λ some. absurd (omega (arith, some)))
    ∙ omega arith

-- What stands before and behind it.
pub record IsSplit (byte : ℕ) (text front back : List ℕ) : Type 0 where
  pub there : has_last byte text ≡ true
  pub before : before_last byte text ≡ front
  pub after : after_last byte text ≡ back

pub split_last : (byte : ℕ) (front back : List ℕ) → list_all (lacks byte) back ≡ true
    → IsSplit byte (front ++ byte ∷ back) front back
split_last byte front back none =
    let text = front ++ byte ∷ back in
    let count = after_len_is byte front back none in
    let size : length text ≡ length front + (1 + length back) = omega (arith, length-append front (byte ∷ back)) in
    let first : length text - after_len byte text - 1 ≡ length front = omega (arith, size, count) in
    let second : length text - after_len byte text ≡ suc (length front) = omega (arith, size, count) in
    let joined : (front ++ byte ∷ []) ++ back ≡ text = append_assoc front (byte ∷ []) back in
    record {
      there = lt-ltb (after_len byte text) (length text) (omega (arith, size, count));
      before = ap (λ (n : ℕ). take n text) first ∙ take_at front (byte ∷ back) (length front) refl;
      after =
          ap (λ (n : ℕ). drop n text) second ∙ ap (λ (l : List ℕ). drop (suc (length front)) l) (sym joined)
          ∙ drop_at (front ++ byte ∷ []) back (suc (length front)) (omega (arith, length-append front (byte ∷ [])));
    }

pub no_last : (byte : ℕ) (text : List ℕ) → list_all (lacks byte) text ≡ true → has_last byte text ≡ false
no_last byte text none =
    ap (λ (n : ℕ). nat_lt n (length text)) (after_len_none byte text none) ∙ not_below (length text)
