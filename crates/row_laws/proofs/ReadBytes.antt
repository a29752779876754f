-- Parts of bytes are bytes, and what texts of bytes spell is bytes.
use Rattle.std.proofs.Common.{◌≡◌, ℕ, zero, suc, ◌-◌, ◌*◌, ◌<◌, Bool, true, false, cond, List, [], ◌∷◌, length, take}
use Rattle.std.proofs.{Common.{drop, Some, None, Result, Ok, Err, refl, sym, subst, ◌∙◌, arith}, lemmas.Bool.and_parts}
use Rattle.std.{proofs.lemmas.Bool.{eqb-true, ltb-true}, specs.Prelude.{◌==◌, filter, nat_lt, unwrap_or, if◌then◌else◌}}
use Rattle.std.specs.{List.list_all, Result.result_ok}
use Rattle.base64.specs.{Engines.{standard, standard_no_pad}, GeneralPurpose.{IsBytes, decode_of, decoded_of}}
use Rattle.base64.specs.declared.decode.DecodeError.{DecodeError}
use Rattle.hex.{specs.{Hex.decode_sized, declared.error.FromHexError.FromHexError}, proofs.HexLemmas.decode_of-ok}
use Rattle.hex.proofs.HexLemmas.{decode_sized-ok, decode_sized-twice}
use Rattle.dir_bytes.specs.Fields.{base64, hex, of_length}
use Rattle.item_terms.specs.Base64Text.{is_inside, joined_text}
use Rattle.dirdoc_grammar.{specs.Bodies.decoded_bytes, proofs.DecodedBytes.decoded_is_bytes}
use Rattle.frame_values.specs.{Parts.{bytes_in, part}, Ranges.AreTwenty, Values.no_digest, declared.found.Span.Span}

-- ---- lists of bytes

bytes_nil : IsBytes []
bytes_nil i = omega arith

bytes_cons : (x : ℕ) (xs : List ℕ) → x < 256 → IsBytes xs → IsBytes (x ∷ xs)
bytes_cons x xs h rest zero = h
bytes_cons x xs h rest (suc i) = rest i

-- the front of bytes
pub bytes_take : (n : ℕ) (xs : List ℕ) → IsBytes xs → IsBytes (take n xs)
bytes_take zero xs h i = omega arith
bytes_take (suc n) [] h i = omega arith
bytes_take (suc n) (x ∷ xs) h zero = h 0
bytes_take (suc n) (x ∷ xs) h (suc i) = bytes_take n xs (λ k. h (suc k)) i

-- the rest of bytes
pub bytes_drop : (n : ℕ) (xs : List ℕ) → IsBytes xs → IsBytes (drop n xs)
bytes_drop zero xs h = h
bytes_drop (suc n) [] h = bytes_nil
bytes_drop (suc n) (x ∷ xs) h = bytes_drop n xs (λ k. h (suc k))

bytes_filter : (p : ℕ → Bool) (xs : List ℕ) → IsBytes xs → IsBytes (filter p xs)
bytes_filter p [] h = bytes_nil
bytes_filter p (x ∷ xs) h = by (p x) (bytes_filter p xs (λ k. h (suc k)))
  where
    by : (t : Bool) → IsBytes (filter p xs) → IsBytes (cond t (x ∷ filter p xs) (filter p xs))
    by true rest = bytes_cons x (filter p xs) (h 0) rest
    by false rest = rest

-- numbers of which a test says that they are below 256
pub bytes_by_test : (xs : List ℕ) → list_all (λ b. nat_lt b 256) xs ≡ true → IsBytes xs
bytes_by_test [] all = bytes_nil
bytes_by_test (x ∷ xs) all =
    let parts = and_parts (nat_lt x 256) (list_all (λ b. nat_lt b 256) xs) all in
    bytes_cons x xs (ltb-true x 256 parts.0) (bytes_by_test xs parts.1)

-- what stands in a span
pub part_bytes : (bytes : List ℕ) (span : Span) → IsBytes bytes → IsBytes (part bytes span)
part_bytes bytes span are =
    bytes_take (span.end - span.start) (drop span.start bytes) (bytes_drop span.start bytes are)

-- ---- what texts spell

spelled_bytes : (lines : List ℕ) → IsBytes lines → IsBytes (unwrap_or (decoded_bytes lines) [])
unfolding decoded_bytes
spelled_bytes lines are = by (decode_of standard (joined_text lines)) refl
  where
    by : (r : Result (List ℕ) DecodeError) → decode_of standard (joined_text lines) ≡ r
        → IsBytes (unwrap_or (result_ok r) [])
    by (Ok b) is = decoded_is_bytes standard (joined_text lines) b (bytes_filter is_inside lines are) is
    by (Err e) is = bytes_nil

-- what an object's lines spell
pub object_bytes : (bytes : List ℕ) (lines : Span) → IsBytes bytes → IsBytes (bytes_in bytes lines)
object_bytes bytes lines are = spelled_bytes (part bytes lines) (part_bytes bytes lines are)

same_bytes : (a b : List ℕ) → Some a ≡ Some b → a ≡ b
same_bytes a b is = cc

-- what hex digits spell
pub hex_spells : (count : ℕ) (text bytes : List ℕ) → hex count text ≡ Some bytes
    → (length bytes ≡ count) × (length text ≡ 2 * length bytes) × IsBytes bytes
unfolding hex
hex_spells count text bytes is = by (decode_sized text count) refl is
  where
    by : (r : Result (List ℕ) FromHexError) → decode_sized text count ≡ r → result_ok r ≡ Some bytes
        → (length bytes ≡ count) × (length text ≡ 2 * length bytes) × IsBytes bytes
    by (Err e) got found = absurd (cc found)
    by (Ok b) got found =
        let long = decode_sized-ok text count b got in
        let all = decode_of-ok text b (sym (decode_sized-twice text count long) ∙ got) in
        subst (λ (l : List ℕ). (length l ≡ count) × (length text ≡ 2 * length l) × IsBytes l)
        (same_bytes b bytes found)
        (omega (arith, long, all.2), omega (arith, long, all.2), all.3)

-- twenty bytes
pub hex_bytes : (text bytes : List ℕ) → hex 20 text ≡ Some bytes → AreTwenty bytes
hex_bytes text bytes is =
    let found = hex_spells 20 text bytes is in record { count = found.0; each = found.2 }

-- what base64 spells that was read by its length
pub base64_bytes : (count : ℕ) (text bytes : List ℕ) → IsBytes text → base64 count text ≡ Some bytes
    → (length bytes ≡ count) × IsBytes bytes
unfolding decoded_of base64
base64_bytes count text bytes are is = by (decode_of standard_no_pad text) refl is
  where
    by_count : (t : Bool) (b : List ℕ) → (length b == count) ≡ t → IsBytes b
        → (if t then Some b else None) ≡ Some bytes → (length bytes ≡ count) × IsBytes bytes
    by_count true b same fit found =
        subst (λ (l : List ℕ). (length l ≡ count) × IsBytes l) (same_bytes b bytes found)
        (eqb-true (length b) count same, fit)
    by_count false b same fit found = absurd (cc found)

    by : (r : Result (List ℕ) DecodeError) → decode_of standard_no_pad text ≡ r
        → of_length count (result_ok r) ≡ Some bytes → (length bytes ≡ count) × IsBytes bytes
    by (Err e) got found = absurd (cc found)
    by (Ok b) got found =
        by_count (length b == count) b refl (decoded_is_bytes standard_no_pad text b are got) found

-- twenty zeros are twenty bytes
pub twenty_zeros : AreTwenty no_digest
twenty_zeros = record { count = refl; each = bytes_by_test no_digest refl }
