-- The canonical texts of values are words: bytes without blanks, of which there is one at least.
use Rattle.std.proofs.Common.{◌≡◌, ℕ, zero, suc, ◌+◌, ◌/◌, ◌%◌, ◌<◌, ◌≤◌, Bool, true, false, cond, List, [], ◌∷◌, ◌++◌}
use Rattle.std.proofs.Common.{length, take, get_or, refl, sym, ap, ◌∙◌, arith, append_assoc, length-append}
use Rattle.std.proofs.lemmas.{Bool.{and_from, and_parts, false≢true, leb-true, Decides.nat_tests}, List.take_all}
use Rattle.std.proofs.lemmas.List.{Elements.{All-cons, All-map, All-nil, All-weaker}, Folds.list_all-append}
use Rattle.std.specs.{Prelude.{All, map, codes, nat_lt, nat_le, ◌==◌, ◌&&◌}, Fmt.{decimal, digits, digits_onto}}
use Rattle.std.specs.{Fmt.digit_glyph, List.list_all}
use Rattle.base64.specs.GeneralPurpose.{IsBytes}
use Rattle.item_terms.specs.Words.{is_letter_or_digit}
use Rattle.dir_bytes.specs.FieldTexts.{date_of, two_digits, date_text, clock_text, hex_text, address_text}
use Rattle.dir_bytes.proofs.Spelling.{hex_text-nil, hex_text_more, length-hex_text}
use Rattle.dir_values.specs.{FlagSets.{is_name, is_name_byte}, Names.is_nickname}
use Rattle.dirdoc_grammar.specs.Writers.{is_argument, is_argument_byte}

-- ---- bytes

-- a byte past the space
dark : (b : ℕ) → 33 ≤ b → is_argument_byte b ≡ true
dark b late = grind (arith, nat_tests)

-- what three tests tell that all pass
pub all_three : (x y z : Bool) → x && y && z ≡ true → (x ≡ true) × (y ≡ true) × (z ≡ true)
all_three true true true e = (refl, refl, refl)
all_three true true false e = absurd cc
all_three true false z e = absurd cc
all_three false y z e = absurd cc

-- what passes one test passes another
pub weaker : (p q : ℕ → Bool) → ((b : ℕ) → p b ≡ true → q b ≡ true) → (text : List ℕ) → list_all p text ≡ true
    → list_all q text ≡ true
weaker p q more [] all = refl
weaker p q more (b ∷ text) all =
    let parts = and_parts (p b) (list_all p text) all in and_from _ _ (more b parts.0) (weaker p q more text parts.1)

-- each byte passes
pub at_index : (p : ℕ → Bool) (text : List ℕ) (i d : ℕ) → i < length text → list_all p text ≡ true
    → p (get_or text i d) ≡ true
at_index p [] i d within all = absurd (omega arith)
at_index p (b ∷ text) zero d within all = (and_parts (p b) (list_all p text) all).0
at_index p (b ∷ text) (suc i) d within all =
    at_index p text i d (omega arith) (and_parts (p b) (list_all p text) all).1

-- bytes of arguments are an argument, if there is one
pub is_word : (text : List ℕ) → 0 < length text → list_all is_argument_byte text ≡ true → is_argument text ≡ true
is_word [] some all = absurd (omega arith)
is_word (b ∷ text) some all = all

-- an argument is not empty
pub length-word : (word : List ℕ) → is_argument word ≡ true → 0 < length word
length-word [] is = absurd (false≢true is)
length-word (b ∷ word) is = omega arith

-- and its bytes may stand in it
pub bytes_of : (word : List ℕ) → is_argument word ≡ true → list_all is_argument_byte word ≡ true
bytes_of [] is = refl
bytes_of (b ∷ word) is = is

-- ---- digits

one_of : (P : List ℕ → Type 0) (t : Bool) (a b : List ℕ) → P a → P b → P (cond t a b)
one_of P true a b x y = x
one_of P false a b x y = y

low : (t u : Bool) (d : ℕ) → 33 ≤ cond t (48 + d) (cond u (55 + d) (87 + d))
low true u d = omega arith
low false true d = omega arith
low false false d = omega arith

glyph : (u : Bool) (d : ℕ) → is_argument_byte (digit_glyph u d) ≡ true
glyph u d = dark (digit_glyph u d) (low (nat_lt d 10) u d)

abbrev pub Dark : List ℕ → Type 0
Dark text = list_all is_argument_byte text ≡ true

abbrev IsFilled : List ℕ → Type 0
IsFilled text = 0 < length text

digits_dark : (k base n : ℕ) (u : Bool) (acc : List ℕ) → Dark acc → Dark (digits_onto k base u n acc)
digits_dark zero base n u acc all = all
digits_dark (suc k) base n u acc all =
    let g = digit_glyph u (n % base) in
    let more : Dark (g ∷ acc) = and_from _ _ (glyph u (n % base)) all in
    one_of Dark (n / base == 0) (g ∷ acc) (digits_onto k base u (n / base) (g ∷ acc)) more
    (digits_dark k base (n / base) u (g ∷ acc) more)

digits_some : (k base n : ℕ) (u : Bool) (acc : List ℕ) → IsFilled (digits_onto (suc k) base u n acc)
digits_some zero base n u acc =
    let g = digit_glyph u (n % base) in
    one_of IsFilled (n / base == 0) (g ∷ acc) (g ∷ acc) (omega arith) (omega arith)
digits_some (suc k) base n u acc =
    let g = digit_glyph u (n % base) in
    one_of IsFilled (n / base == 0) (g ∷ acc) (digits_onto (suc k) base u (n / base) (g ∷ acc)) (omega arith)
    (digits_some k base (n / base) u (g ∷ acc))

-- two digits in front
two : (n : ℕ) (text : List ℕ) → Dark text → Dark ((48 + n / 10) ∷ (48 + n % 10) ∷ text)
two n text all = and_from _ _ (dark (48 + n / 10) (omega arith)) (and_from _ _ (dark (48 + n % 10) (omega arith)) all)

pub both_dark : (a b : List ℕ) → Dark a → Dark b → Dark (a ++ b)
both_dark a b first second = list_all-append is_argument_byte a b ∙ and_from _ _ first second

-- the hex digits
abbrev hex_digits : List ℕ
hex_digits = codes "0123456789ABCDEF"

hex_digit : (d : ℕ) → d < 16 → is_argument_byte (get_or hex_digits d 0) ≡ true
hex_digit d small = at_index is_argument_byte hex_digits d 0 small refl

-- the hex digits of the first bytes
hex_dark : (bytes : List ℕ) (i : ℕ) → IsBytes bytes → i ≤ length bytes → Dark (hex_text (take i bytes))
hex_dark bytes zero fits within = ap (list_all is_argument_byte) hex_text-nil
hex_dark bytes (suc i) fits within =
    let b = get_or bytes i 0 in
    let small : b < 256 = fits i in
    let high = hex_digit (b / 16) (omega (arith, small)) in
    let digits = and_from _ _ high (and_from _ _ (hex_digit (b % 16) (omega arith)) refl) in
    let one : suc i ≡ i + 1 = omega arith in
    ap (λ (n : ℕ). list_all is_argument_byte (hex_text (take n bytes))) one
    ∙ ap (list_all is_argument_byte) (hex_text_more bytes i (omega (arith, within)))
    ∙ both_dark (hex_text (take i bytes)) (get_or hex_digits (b / 16) 0 ∷ get_or hex_digits (b % 16) 0 ∷ [])
    (hex_dark bytes i fits (omega (arith, within))) digits

-- ---- texts that are words

-- the digits of a number
pub word_of_number : (n : ℕ) → is_argument (decimal n) ≡ true
unfolding digits
word_of_number n =
    is_word (digits_onto 64 10 false n []) (digits_some 63 10 n false []) (digits_dark 64 10 n false [] refl)

-- the hex digits of bytes
pub word_of_hex : (bytes : List ℕ) → 0 < length bytes → IsBytes bytes → is_argument (hex_text bytes) ≡ true
word_of_hex bytes some fits =
    let all =
    ap (λ (l : List ℕ). list_all is_argument_byte (hex_text l)) (sym (take_all (length bytes) bytes (omega arith)))
    ∙ hex_dark bytes (length bytes) fits (omega arith) in
    is_word (hex_text bytes) (omega (arith, length-hex_text bytes, some)) all

-- the digits of an identity
pub word_of_identity : (bytes : List ℕ) → length bytes ≡ 20 → IsBytes bytes → is_argument (hex_text bytes) ≡ true
word_of_identity bytes twenty fits = word_of_hex bytes (omega (arith, twenty)) fits

-- a date
pub word_of_date : (days : ℕ) → is_argument (date_text days) ≡ true
unfolding date_text
word_of_date days =
    let date = date_of days in
    let day = two_digits date.day in
    let month = two_digits date.month ++ 45 ∷ day in
    two (date.year / 100) (two_digits (date.year % 100) ++ 45 ∷ month)
    (two (date.year % 100) (45 ∷ month) (two date.month (45 ∷ day) (two date.day [] refl)))

-- a time of day
pub word_of_clock : (seconds : ℕ) → is_argument (clock_text seconds) ≡ true
unfolding clock_text
word_of_clock seconds =
    let second = two_digits (seconds % 60) in
    let minute = two_digits (seconds / 60 % 60) ++ 58 ∷ second in
    two (seconds / 3600) (58 ∷ minute) (two (seconds / 60 % 60) (58 ∷ second) (two (seconds % 60) [] refl))

pub number_dark : (n : ℕ) → Dark (decimal n)
number_dark n = bytes_of (decimal n) (word_of_number n)

-- an address
pub word_of_address : (ip : ℕ) → is_argument (address_text ip) ≡ true
unfolding address_text
word_of_address ip =
    let a = decimal (ip / 16777216) in
    let b = decimal (ip / 65536 % 256) in
    let c = decimal (ip / 256 % 256) in
    let d = decimal (ip % 256) in
    let shape : address_text ip ≡ a ++ 46 ∷ (b ++ 46 ∷ (c ++ 46 ∷ d)) = simp append_assoc in
    let third = c ++ 46 ∷ d in
    let second = b ++ 46 ∷ third in
    let last = both_dark c (46 ∷ d) (number_dark (ip / 256 % 256)) (number_dark (ip % 256)) in
    let later = both_dark b (46 ∷ third) (number_dark (ip / 65536 % 256)) last in
    let all = both_dark a (46 ∷ second) (number_dark (ip / 16777216)) later in
    ap is_argument shape ∙ is_word (a ++ 46 ∷ second) (omega (arith, length-append a (46 ∷ second))) all

letter : (b : ℕ) → is_letter_or_digit b ≡ true → is_argument_byte b ≡ true
letter b is = grind (arith, nat_tests)

flag_byte : (b : ℕ) → is_name_byte b ≡ true → is_argument_byte b ≡ true
flag_byte b is = grind (arith, nat_tests)

-- a nickname
pub word_of_nickname : (name : List ℕ) → is_nickname name ≡ true → is_argument name ≡ true
word_of_nickname name is =
    let parts = all_three (nat_le 1 (length name)) (nat_le (length name) 19) (list_all is_letter_or_digit name) is in
    is_word name (leb-true 1 (length name) parts.0) (weaker is_letter_or_digit is_argument_byte letter name parts.2)

-- the name of a flag
pub word_of_flag : (flag : List ℕ) → is_name flag ≡ true → is_argument flag ≡ true
word_of_flag flag is =
    let parts = all_three (nat_le 1 (length flag)) (nat_le (length flag) 64) (list_all is_name_byte flag) is in
    is_word flag (leb-true 1 (length flag) parts.0) (weaker is_name_byte is_argument_byte flag_byte flag parts.2)

-- ---- lists of words

-- each is a word
abbrev pub IsWord : List ℕ → Type 0
IsWord word = is_argument word ≡ true

abbrev pub AreWords : List (List ℕ) → Type 0
AreWords words = All IsWord words

-- two words
pub two_words : (a b : List ℕ) → is_argument a ≡ true → is_argument b ≡ true → AreWords (a ∷ b ∷ [])
two_words a b first second = All-cons IsWord a (b ∷ []) first (All-cons IsWord b [] second (All-nil IsWord))

-- the digits of numbers
pub words_of_numbers : (numbers : List ℕ) → AreWords (map decimal numbers)
words_of_numbers numbers = All-map IsWord decimal numbers (λ k d within. word_of_number _)

-- the names of flags
pub words_of_flags : (flags : List (List ℕ)) → All (λ flag. is_name flag ≡ true) flags → AreWords flags
words_of_flags flags each = All-weaker (λ flag. is_name flag ≡ true) IsWord word_of_flag flags each
