-- Reading base64 symbol by symbol tells whether it decodes.
use Rattle.std.proofs.Common.{◌≡◌, ℕ, suc, ◌+◌, ◌*◌, ◌/◌, ◌%◌, ◌<◌, Bool, true, false, cond, List, [], ◌∷◌, Result, Ok}
use Rattle.std.{proofs.{Common.{Err, refl, sym, ap, ◌∙◌, arith}, lemmas.Bool.eq-eqb}, specs.Prelude.{◌==◌, nat_le}}
use Rattle.std.specs.Prelude.{◌&&◌, is_ok}
use Rattle.base64.specs.declared.decode.{DecodeError.DecodeError, DecodeAllocError.DecodeAllocError}
use Rattle.base64.specs.declared.decode.DecodeAllocError.TheVariants.{DecodeError as Failed, OutOfMemory}
use Rattle.base64.specs.{GeneralPurpose.{IsBytes, IsDecodeFailure, decode_of, encode_of}, Engines.standard}
use Rattle.base64.proofs.EngineFacts.{decode_of-encode_of, decode_of_strict, encode_of-nil}
use Rattle.item_terms.specs.Base64Text.{is_inside, joined_text, is_base64}
use Rattle.dirdoc_grammar.specs.declared.base64_text.Group.TheVariants.{Start, One, Two, Three, PaddedOnce, Closed}
use Rattle.dirdoc_grammar.{specs.Groups.{symbol, goes_on}, proofs.DecodedBytes.decoded_is_bytes}
use Rattle.dirdoc_grammar.proofs.Base64Encodings.{spelled, symbol-spelled, no_padding, IsSymbol, spelled_is_symbol}
use Rattle.dirdoc_grammar.proofs.Base64Encodings.{two_bytes, one_byte, more_bytes, bytes_cons, bytes_nil}
use Rattle.dirdoc_grammar.proofs.Base64Encodings.{accepted_is_encoding}

-- ---- an encoding is accepted

two_symbols : (s0 s1 : ℕ) (rest : List ℕ) → IsSymbol s0 → IsSymbol s1 → goes_on Start (s0 ∷ s1 ∷ rest) ≡ goes_on (Two (symbol s1)) rest
two_symbols s0 s1 rest h0 h1 =
    ap (λ (t : Bool). t && goes_on One (s1 ∷ rest)) h0 ∙ ap (λ (t : Bool). t && goes_on (Two (symbol s1)) rest) h1

three_symbols : (s0 s1 s2 : ℕ) (rest : List ℕ) → IsSymbol s0 → IsSymbol s1 → IsSymbol s2 → (s2 == 61) ≡ false → goes_on Start (s0 ∷ s1 ∷ s2 ∷ rest) ≡ goes_on (Three (symbol s2)) rest
three_symbols s0 s1 s2 rest h0 h1 h2 n2 =
    two_symbols s0 s1 (s2 ∷ rest) h0 h1
    ∙ ap (λ (t : Bool). cond t (symbol s1 % 16 == 0) (nat_le (symbol s2) 63) && goes_on (cond t PaddedOnce (Three (symbol s2))) rest) n2
    ∙ ap (λ (t : Bool). t && goes_on (Three (symbol s2)) rest) h2

pub four_symbols : (s0 s1 s2 s3 : ℕ) (rest : List ℕ) → IsSymbol s0 → IsSymbol s1 → IsSymbol s2 → (s2 == 61) ≡ false → IsSymbol s3 → (s3 == 61) ≡ false → goes_on Start (s0 ∷ s1 ∷ s2 ∷ s3 ∷ rest) ≡ goes_on Start rest
four_symbols s0 s1 s2 s3 rest h0 h1 h2 n2 h3 n3 =
    three_symbols s0 s1 s2 (s3 ∷ rest) h0 h1 h2 n2
    ∙ ap (λ (t : Bool). cond t (symbol s2 % 4 == 0) (nat_le (symbol s3) 63) && goes_on (cond t Closed Start) rest) n3
    ∙ ap (λ (t : Bool). t && goes_on Start rest) h3

-- the values of a byte's symbols
byte_low : (a : ℕ) → a % 4 * 16 < 64
byte_low a = omega arith

byte_high : (a : ℕ) → a < 256 → a / 4 < 64
byte_high a h = omega arith

seam_one : (a b : ℕ) → b < 256 → a % 4 * 16 + b / 16 < 64
seam_one a b h = omega arith

seam_two : (b c : ℕ) → c < 256 → b % 16 * 4 + c / 64 < 64
seam_two b c h = omega arith

pub encoding_is_accepted : (bytes : List ℕ) → IsBytes bytes → goes_on Start (encode_of standard bytes) ≡ true
encoding_is_accepted [] fit = ap (goes_on Start) (encode_of-nil standard)
encoding_is_accepted (a ∷ []) fit =
    let v = a % 4 * 16 in
    let low : symbol (spelled v) % 16 ≡ 0 = ap (λ (n : ℕ). n % 16) (symbol-spelled v (byte_low a)) ∙ omega arith in
    ap (goes_on Start) (one_byte a)
    ∙ two_symbols (spelled (a / 4)) (spelled v) (61 ∷ 61 ∷ []) (spelled_is_symbol (a / 4) (byte_high a (fit 0))) (spelled_is_symbol v (byte_low a))
    ∙ ap (λ (t : Bool). t && true) (eq-eqb (symbol (spelled v) % 16) 0 low)
encoding_is_accepted (a ∷ b ∷ []) fit =
    let u = a % 4 * 16 + b / 16 in
    let v = b % 16 * 4 in
    let fits : v < 64 = omega arith in
    let low : symbol (spelled v) % 4 ≡ 0 = ap (λ (n : ℕ). n % 4) (symbol-spelled v fits) ∙ omega arith in
    ap (goes_on Start) (two_bytes a b)
    ∙ three_symbols (spelled (a / 4)) (spelled u) (spelled v) (61 ∷ []) (spelled_is_symbol (a / 4) (byte_high a (fit 0))) (spelled_is_symbol u (seam_one a b (fit 1))) (spelled_is_symbol v fits) (no_padding v fits)
    ∙ ap (λ (t : Bool). t && true) (eq-eqb (symbol (spelled v) % 4) 0 low)
encoding_is_accepted (a ∷ b ∷ c ∷ rest) fit =
    let u = a % 4 * 16 + b / 16 in
    let v = b % 16 * 4 + c / 64 in
    let w = c % 64 in
    let fits_v = seam_two b c (fit 2) in
    let fits_w : w < 64 = omega arith in
    ap (goes_on Start) (more_bytes a b c rest)
    ∙ four_symbols (spelled (a / 4)) (spelled u) (spelled v) (spelled w) (encode_of standard rest) (spelled_is_symbol (a / 4) (byte_high a (fit 0))) (spelled_is_symbol u (seam_one a b (fit 1)))
    (spelled_is_symbol v fits_v) (no_padding v fits_v) (spelled_is_symbol w fits_w) (no_padding w fits_w)
    ∙ encoding_is_accepted rest (λ i. fit (suc (suc (suc i))))

-- ---- both together

-- what a text decodes to
decoded : List ℕ → Result (List ℕ) DecodeError
decoded text = decode_of standard text

decoded-encode : (bytes : List ℕ) → IsBytes bytes → decoded (encode_of standard bytes) ≡ Ok bytes
unfolding decoded
decoded-encode bytes fit = decode_of-encode_of standard bytes refl fit

decoded_strict : (text bytes : List ℕ) → IsBytes text → decoded text ≡ Ok bytes → text ≡ encode_of standard bytes
unfolding decoded
decoded_strict text bytes fit e = decode_of_strict standard text bytes (refl, refl) fit e

decoded_bytes_fit : (text bytes : List ℕ) → IsBytes text → decoded text ≡ Ok bytes → IsBytes bytes
unfolding decoded
decoded_bytes_fit text bytes fit e = decoded_is_bytes standard text bytes fit e

by_cases : (text : List ℕ) (accepted : Bool) (result : Result (List ℕ) DecodeError) → IsBytes text → goes_on Start text ≡ accepted → decoded text ≡ result → accepted ≡ is_ok result
by_cases text true (Ok bytes) fit a r = refl
by_cases text false (Err fault) fit a r = refl
by_cases text true (Err fault) fit a r =
    let e = accepted_is_encoding text fit a in
    let ok : decoded text ≡ Ok e.bytes = ap decoded e.is ∙ decoded-encode e.bytes e.fit in
    absurd (let wrong = sym r ∙ ok in cc)
by_cases text false (Ok bytes) fit a r =
    let yes : goes_on Start text ≡ true = ap (goes_on Start) (decoded_strict text bytes fit r) ∙ encoding_is_accepted bytes (decoded_bytes_fit text bytes fit r) in
    absurd (let wrong = sym a ∙ yes in cc)

is_base64-decoded : (text : List ℕ) → is_ok (decoded text) ≡ is_base64 text
unfolding decoded is_base64
is_base64-decoded text = refl

joined_by : (inside : Bool) (b : ℕ) (text : List ℕ) → b < 256 → IsBytes (joined_text text) → IsBytes (cond inside (b ∷ joined_text text) (joined_text text))
joined_by true b text h rest = bytes_cons b (joined_text text) h rest
joined_by false b text h rest = rest

joined_bytes : (text : List ℕ) → IsBytes text → IsBytes (joined_text text)
joined_bytes [] fit = bytes_nil
joined_bytes (b ∷ text) fit = joined_by (is_inside b) b text (fit 0) (joined_bytes text (λ i. fit (suc i)))

pub goes_on-joined : (text : List ℕ) → IsBytes text → goes_on Start (joined_text text) ≡ is_base64 (joined_text text)
goes_on-joined text fit =
    by_cases (joined_text text) (goes_on Start (joined_text text)) (decoded (joined_text text)) (joined_bytes text fit) refl refl ∙ is_base64-decoded (joined_text text)

by_failure : (text : List ℕ) (failure : DecodeAllocError) (fault : DecodeError) → is_ok (decode_of standard text) ≡ true → failure ≡ Failed fault → IsDecodeFailure standard text failure → ⊥
by_failure text (Failed found) fault ok e failed = absurd (let wrong : is_ok (decode_of standard text) ≡ false = ap is_ok failed in cc)
by_failure text OutOfMemory fault ok e failed = absurd cc

-- base64 decodes
pub never_fails : (text : List ℕ) (failure : DecodeAllocError) (fault : DecodeError) → is_base64 text ≡ true → failure ≡ Failed fault → IsDecodeFailure standard text failure → ⊥
unfolding is_base64
never_fails text failure fault ok e failed = by_failure text failure fault ok e failed
