-- What is accepted symbol by symbol as base64 is an encoding.
use Rattle.std.proofs.Common.{◌≡◌, ℕ, zero, suc, ◌+◌, ◌*◌, ◌/◌, ◌%◌, ◌<◌, Bool, true, false, cond, List, [], ◌∷◌, ◌++◌}
use Rattle.std.proofs.{Common.{refl, sym, ap, ◌∙◌, arith, slice_index}, lemmas.Bool.{and_parts, eqb-true, leb-true}}
use Rattle.std.{proofs.lemmas.Bool.{le-leb, not-true}, specs.Prelude.{◌==◌, nat_le, not, ◌&&◌, ◌||◌}}
use Rattle.base64.specs.{GeneralPurpose.{IsBytes, encode_of}, Engines.standard, Rfc4648.encode_symbols}
use Rattle.base64.{specs.Tables.all_below, proofs.{Tables.all_below_at, EngineFacts.{encode_of-nil, encode_of-append}}}
use Rattle.dirdoc_grammar.specs.declared.base64_text.Group.TheVariants.{Start, One, Two, Three, PaddedOnce, Closed}
use Rattle.dirdoc_grammar.specs.Groups.{symbol, may_grow, grown_group, may_end, goes_on}

-- ---- symbols and their values

-- the symbol of a value
pub spelled : ℕ → ℕ
spelled value = slice_index standard.encode_table value

abbrev comes_back : ℕ → Bool
comes_back value = (symbol (spelled value) == value) && not (spelled value == 61)

comes_back_below : all_below comes_back 64 ≡ true
unfolding spelled
comes_back_below = refl

pub symbol-spelled : (value : ℕ) → value < 64 → symbol (spelled value) ≡ value
symbol-spelled value lt = eqb-true _ _ (and_parts (symbol (spelled value) == value) (not (spelled value == 61)) (all_below_at comes_back 64 value comes_back_below lt)).0

pub no_padding : (value : ℕ) → value < 64 → (spelled value == 61) ≡ false
no_padding value lt = not-true _ (and_parts (symbol (spelled value) == value) (not (spelled value == 61)) (all_below_at comes_back 64 value comes_back_below lt)).1

-- the byte is a symbol
abbrev pub IsSymbol : ℕ → Type 0
IsSymbol b = nat_le (symbol b) 63 ≡ true

pub spelled_is_symbol : (value : ℕ) → value < 64 → IsSymbol (spelled value)
spelled_is_symbol value lt = ap (λ (n : ℕ). nat_le n 63) (symbol-spelled value lt) ∙ le-leb value 63 (omega arith)

abbrev spells : ℕ → Bool
spells b = not (nat_le (symbol b) 63) || (spelled (symbol b) == b)

spells_below : all_below spells 256 ≡ true
unfolding spelled
spells_below = refl

where_true : (a b : Bool) → (not a || b) ≡ true → a ≡ true → b ≡ true
where_true true b h e = h
where_true false b h e = absurd cc

spelled-symbol : (b : ℕ) → b < 256 → IsSymbol b → spelled (symbol b) ≡ b
spelled-symbol b lt is = eqb-true _ _ (where_true (nat_le (symbol b) 63) (spelled (symbol b) == b) (all_below_at spells 256 b spells_below lt) is)

-- a symbol is that of its value, which is this one
is_spelled : (b value : ℕ) → b < 256 → IsSymbol b → symbol b ≡ value → b ≡ spelled value
is_spelled b value lt is e = sym (spelled-symbol b lt is) ∙ ap spelled e

value_fits : (b : ℕ) → IsSymbol b → symbol b < 64
value_fits b is = let le = leb-true (symbol b) 63 is in omega arith

-- ---- one group of an encoding

three_bytes : (a b c : ℕ) → encode_of standard (a ∷ b ∷ c ∷ []) ≡ spelled (a / 4) ∷ spelled (a % 4 * 16 + b / 16) ∷ spelled (b % 16 * 4 + c / 64) ∷ spelled (c % 64) ∷ []
unfolding encode_symbols spelled
three_bytes a b c = refl

pub two_bytes : (a b : ℕ) → encode_of standard (a ∷ b ∷ []) ≡ spelled (a / 4) ∷ spelled (a % 4 * 16 + b / 16) ∷ spelled (b % 16 * 4) ∷ 61 ∷ []
unfolding encode_symbols spelled
two_bytes a b = refl

pub one_byte : (a : ℕ) → encode_of standard (a ∷ []) ≡ spelled (a / 4) ∷ spelled (a % 4 * 16) ∷ 61 ∷ 61 ∷ []
unfolding encode_symbols spelled
one_byte a = refl

pub more_bytes : (a b c : ℕ) (rest : List ℕ) → encode_of standard (a ∷ b ∷ c ∷ rest)
    ≡ spelled (a / 4) ∷ spelled (a % 4 * 16 + b / 16) ∷ spelled (b % 16 * 4 + c / 64) ∷ spelled (c % 64) ∷ encode_of standard rest
more_bytes a b c rest = encode_of-append standard (a ∷ b ∷ c ∷ []) rest refl ∙ ap (λ (l : List ℕ). l ++ encode_of standard rest) (three_bytes a b c)

-- ---- what is accepted is an encoding

pub record IsEncoding (text : List ℕ) : Type 0 where
  pub bytes : List ℕ
  pub fit : IsBytes bytes
  pub is : text ≡ encode_of standard bytes

five : (a b c d a' b' c' d' : ℕ) (l m : List ℕ) → a ≡ a' → b ≡ b' → c ≡ c' → d ≡ d' → l ≡ m → a ∷ b ∷ c ∷ d ∷ l ≡ a' ∷ b' ∷ c' ∷ d' ∷ m
five a b c d a' b' c' d' l m ea eb ec ed el = cc

nothing_more : (rest : List ℕ) → goes_on Closed rest ≡ true → rest ≡ []
nothing_more [] h = refl
nothing_more (b ∷ rest) h = absurd cc

-- ---- three bytes of four values

-- the bytes that these values make
abbrev first_byte : ℕ → ℕ → ℕ
first_byte v0 v1 = v0 * 4 + v1 / 16

abbrev second_byte : ℕ → ℕ → ℕ
second_byte v1 v2 = v1 % 16 * 16 + v2 / 4

abbrev third_byte : ℕ → ℕ → ℕ
third_byte v2 v3 = v2 % 4 * 64 + v3

first_fits : (v0 v1 : ℕ) → v0 < 64 → v1 < 64 → first_byte v0 v1 < 256
first_fits v0 v1 h0 h1 = omega arith

second_fits : (v1 v2 : ℕ) → v1 < 64 → v2 < 64 → second_byte v1 v2 < 256
second_fits v1 v2 h1 h2 = omega arith

third_fits : (v2 v3 : ℕ) → v2 < 64 → v3 < 64 → third_byte v2 v3 < 256
third_fits v2 v3 h2 h3 = omega arith

value0 : (v0 v1 : ℕ) → v1 < 64 → v0 ≡ first_byte v0 v1 / 4
value0 v0 v1 h1 = omega arith

value1 : (v0 v1 v2 : ℕ) → v1 < 64 → v2 < 64 → v1 ≡ first_byte v0 v1 % 4 * 16 + second_byte v1 v2 / 16
value1 v0 v1 v2 h1 h2 = omega arith

value2 : (v1 v2 v3 : ℕ) → v2 < 64 → v3 < 64 → v2 ≡ second_byte v1 v2 % 16 * 4 + third_byte v2 v3 / 64
value2 v1 v2 v3 h2 h3 = omega arith

value3 : (v2 v3 : ℕ) → v3 < 64 → v3 ≡ third_byte v2 v3 % 64
value3 v2 v3 h3 = omega arith

last_of_one : (v0 v1 : ℕ) → v1 < 64 → v1 % 16 ≡ 0 → v1 ≡ first_byte v0 v1 % 4 * 16
last_of_one v0 v1 h1 e = omega arith

last_of_two : (v1 v2 : ℕ) → v2 < 64 → v2 % 4 ≡ 0 → v2 ≡ second_byte v1 v2 % 16 * 4
last_of_two v1 v2 h2 e = omega arith

pub bytes_cons : (x : ℕ) (xs : List ℕ) → x < 256 → IsBytes xs → IsBytes (x ∷ xs)
bytes_cons x xs h rest zero = h
bytes_cons x xs h rest (suc i) = rest i

pub bytes_nil : IsBytes []
bytes_nil i = omega arith

-- ---- what is accepted is an encoding, by cases on the padding

of_three : (c0 c1 c2 c3 : ℕ) (rest : List ℕ) → IsBytes (c0 ∷ c1 ∷ c2 ∷ c3 ∷ rest) → IsSymbol c0 → IsSymbol c1 → IsSymbol c2 → IsSymbol c3 → IsEncoding rest → IsEncoding (c0 ∷ c1 ∷ c2 ∷ c3 ∷ rest)
of_three c0 c1 c2 c3 rest fit s0 s1 s2 s3 more =
    let l0 = value_fits c0 s0 in
    let l1 = value_fits c1 s1 in
    let l2 = value_fits c2 s2 in
    let l3 = value_fits c3 s3 in
    let a = first_byte (symbol c0) (symbol c1) in
    let b = second_byte (symbol c1) (symbol c2) in
    let c = third_byte (symbol c2) (symbol c3) in
    record {
      bytes = a ∷ b ∷ c ∷ more.bytes;
      fit = bytes_cons a (b ∷ c ∷ more.bytes) (first_fits _ _ l0 l1) (bytes_cons b (c ∷ more.bytes) (second_fits _ _ l1 l2) (bytes_cons c more.bytes (third_fits _ _ l2 l3) more.fit));
      is = five c0 c1 c2 c3 (spelled (a / 4)) (spelled (a % 4 * 16 + b / 16)) (spelled (b % 16 * 4 + c / 64)) (spelled (c % 64)) rest (encode_of standard more.bytes)
          (is_spelled c0 (a / 4) (fit 0) s0 (value0 _ _ l1))
          (is_spelled c1 (a % 4 * 16 + b / 16) (fit 1) s1 (value1 _ _ _ l1 l2))
          (is_spelled c2 (b % 16 * 4 + c / 64) (fit 2) s2 (value2 _ _ _ l2 l3))
          (is_spelled c3 (c % 64) (fit 3) s3 (value3 _ _ l3))
          more.is
          ∙ sym (more_bytes a b c more.bytes);
    }

of_two : (c0 c1 c2 c3 : ℕ) (rest : List ℕ) → IsBytes (c0 ∷ c1 ∷ c2 ∷ c3 ∷ rest) → IsSymbol c0 → IsSymbol c1 → IsSymbol c2 → symbol c2 % 4 ≡ 0 → c3 ≡ 61 → rest ≡ [] → IsEncoding (c0 ∷ c1 ∷ c2 ∷ c3 ∷ rest)
of_two c0 c1 c2 c3 rest fit s0 s1 s2 low pad none =
    let l0 = value_fits c0 s0 in
    let l1 = value_fits c1 s1 in
    let l2 = value_fits c2 s2 in
    let a = first_byte (symbol c0) (symbol c1) in
    let b = second_byte (symbol c1) (symbol c2) in
    record {
      bytes = a ∷ b ∷ [];
      fit = bytes_cons a (b ∷ []) (first_fits _ _ l0 l1) (bytes_cons b [] (second_fits _ _ l1 l2) bytes_nil);
      is = five c0 c1 c2 c3 (spelled (a / 4)) (spelled (a % 4 * 16 + b / 16)) (spelled (b % 16 * 4)) 61 rest []
          (is_spelled c0 (a / 4) (fit 0) s0 (value0 _ _ l1))
          (is_spelled c1 (a % 4 * 16 + b / 16) (fit 1) s1 (value1 _ _ _ l1 l2))
          (is_spelled c2 (b % 16 * 4) (fit 2) s2 (last_of_two _ _ l2 low))
          pad none
          ∙ sym (two_bytes a b);
    }

of_one : (c0 c1 c2 c3 : ℕ) (rest : List ℕ) → IsBytes (c0 ∷ c1 ∷ c2 ∷ c3 ∷ rest) → IsSymbol c0 → IsSymbol c1 → symbol c1 % 16 ≡ 0 → c2 ≡ 61 → c3 ≡ 61 → rest ≡ [] → IsEncoding (c0 ∷ c1 ∷ c2 ∷ c3 ∷ rest)
of_one c0 c1 c2 c3 rest fit s0 s1 low pad2 pad3 none =
    let l0 = value_fits c0 s0 in
    let l1 = value_fits c1 s1 in
    let a = first_byte (symbol c0) (symbol c1) in
    record {
      bytes = a ∷ [];
      fit = bytes_cons a [] (first_fits _ _ l0 l1) bytes_nil;
      is = five c0 c1 c2 c3 (spelled (a / 4)) (spelled (a % 4 * 16)) 61 61 rest []
          (is_spelled c0 (a / 4) (fit 0) s0 (value0 _ _ l1))
          (is_spelled c1 (a % 4 * 16) (fit 1) s1 (last_of_one _ _ l1 low))
          pad2 pad3 none
          ∙ sym (one_byte a);
    }

-- the fourth symbol and what follows, after three
fourth : (pad : Bool) (c0 c1 c2 c3 : ℕ) (rest : List ℕ) → IsBytes (c0 ∷ c1 ∷ c2 ∷ c3 ∷ rest) → IsSymbol c0 → IsSymbol c1 → IsSymbol c2 → (c3 == 61) ≡ pad
    → cond pad (symbol c2 % 4 == 0) (nat_le (symbol c3) 63) && goes_on (cond pad Closed Start) rest ≡ true
    → (goes_on Start rest ≡ true → IsEncoding rest) → IsEncoding (c0 ∷ c1 ∷ c2 ∷ c3 ∷ rest)
fourth true c0 c1 c2 c3 rest fit s0 s1 s2 is h more =
    let parts = and_parts (symbol c2 % 4 == 0) (goes_on Closed rest) h in
    of_two c0 c1 c2 c3 rest fit s0 s1 s2 (eqb-true (symbol c2 % 4) 0 parts.0) (eqb-true c3 61 is) (nothing_more rest parts.1)
fourth false c0 c1 c2 c3 rest fit s0 s1 s2 is h more =
    let parts = and_parts (nat_le (symbol c3) 63) (goes_on Start rest) h in
    of_three c0 c1 c2 c3 rest fit s0 s1 s2 parts.0 (more parts.1)

-- the third symbol and what follows, after two
third : (pad : Bool) (c0 c1 c2 c3 : ℕ) (rest : List ℕ) → IsBytes (c0 ∷ c1 ∷ c2 ∷ c3 ∷ rest) → IsSymbol c0 → IsSymbol c1 → (c2 == 61) ≡ pad
    → cond pad (symbol c1 % 16 == 0) (nat_le (symbol c2) 63) && goes_on (cond pad PaddedOnce (Three (symbol c2))) (c3 ∷ rest) ≡ true
    → (goes_on Start rest ≡ true → IsEncoding rest) → IsEncoding (c0 ∷ c1 ∷ c2 ∷ c3 ∷ rest)
third true c0 c1 c2 c3 rest fit s0 s1 is h more =
    let parts = and_parts (symbol c1 % 16 == 0) ((c3 == 61) && goes_on Closed rest) h in
    let last = and_parts (c3 == 61) (goes_on Closed rest) parts.1 in
    of_one c0 c1 c2 c3 rest fit s0 s1 (eqb-true (symbol c1 % 16) 0 parts.0) (eqb-true c2 61 is) (eqb-true c3 61 last.0) (nothing_more rest last.1)
third false c0 c1 c2 c3 rest fit s0 s1 is h more =
    let parts = and_parts (nat_le (symbol c2) 63) (goes_on (Three (symbol c2)) (c3 ∷ rest)) h in
    fourth (c3 == 61) c0 c1 c2 c3 rest fit s0 s1 parts.0 refl parts.1 more

three_alone : (pad : Bool) (value : ℕ) → may_end (cond pad PaddedOnce (Three value)) ≡ true → ⊥
three_alone true value h = cc
three_alone false value h = cc

pub accepted_is_encoding : (text : List ℕ) → IsBytes text → goes_on Start text ≡ true → IsEncoding text
accepted_is_encoding [] fit h = record { bytes = []; fit = bytes_nil; is = sym (encode_of-nil standard) }
accepted_is_encoding (c0 ∷ []) fit h = absurd (let parts = and_parts (nat_le (symbol c0) 63) false h in let e = parts.1 in cc)
accepted_is_encoding (c0 ∷ c1 ∷ []) fit h =
    let first = and_parts (nat_le (symbol c0) 63) (nat_le (symbol c1) 63 && false) h in
    absurd (let parts = and_parts (nat_le (symbol c1) 63) false first.1 in let e = parts.1 in cc)
accepted_is_encoding (c0 ∷ c1 ∷ c2 ∷ []) fit h =
    let first = and_parts (nat_le (symbol c0) 63) (goes_on One (c1 ∷ c2 ∷ [])) h in
    let second = and_parts (nat_le (symbol c1) 63) (goes_on (Two (symbol c1)) (c2 ∷ [])) first.1 in
    let last = and_parts (may_grow (Two (symbol c1)) c2) (may_end (grown_group (Two (symbol c1)) c2)) second.1 in
    absurd (three_alone (c2 == 61) (symbol c2) last.1)
accepted_is_encoding (c0 ∷ c1 ∷ c2 ∷ c3 ∷ rest) fit h =
    let first = and_parts (nat_le (symbol c0) 63) (goes_on One (c1 ∷ c2 ∷ c3 ∷ rest)) h in
    let second = and_parts (nat_le (symbol c1) 63) (goes_on (Two (symbol c1)) (c2 ∷ c3 ∷ rest)) first.1 in
    third (c2 == 61) c0 c1 c2 c3 rest fit first.0 second.0 refl second.1 (accepted_is_encoding rest (λ i. fit (suc (suc (suc (suc i))))))
