-- What base64 decodes to is bytes.
use Rattle.std.proofs.Common.{◌≡◌, ℕ, zero, suc, ◌+◌, ◌*◌, ◌/◌, ◌%◌, ◌<◌, ◌≤◌, Bool, true, false, cond, List, [], ◌∷◌}
use Rattle.std.proofs.Common.{◌++◌, length, take, drop, Option, Some, None, Ok, Err, refl, ap, arith, inl, inr}
use Rattle.std.{proofs.{Common.slice_index, lemmas.List.length-drop}, specs.Prelude.◌==◌}
use Rattle.base64.specs.declared.{decode.DecodeError.DecodeError, engine.DecodePaddingMode.DecodePaddingMode}
use Rattle.base64.specs.{declared.engine.general_purpose.GeneralPurpose.GeneralPurpose, GeneralPurpose.IsBytes}
use Rattle.base64.specs.{GeneralPurpose.decode_of, Decode.{decode_group, or_else, symbol_error, group_error}}
use Rattle.base64.specs.Decode.{group_bytes, groups_error, groups_bytes, groups_before_last, no_leftover, scan_last}
use Rattle.base64.specs.{Decode.{scan_error, scan_bytes, decode_outcome, IsDecodeTable}, Tables.is_inverse}
use Rattle.base64.proofs.{Decoding.IsLeftover, Canonical.IsScanned-scan, EngineFacts.decode_of_bytes}
use Rattle.base64.proofs.Tables.{are_tables_inverse, IsDecodeTable_from}

-- ---- lists of bytes

bytes_nil : IsBytes []
bytes_nil i = omega arith

bytes_cons : (x : ℕ) (xs : List ℕ) → x < 256 → IsBytes xs → IsBytes (x ∷ xs)
bytes_cons x xs h rest zero = h
bytes_cons x xs h rest (suc i) = rest i

bytes_append : (a b : List ℕ) → IsBytes a → IsBytes b → IsBytes (a ++ b)
bytes_append [] b ha hb i = hb i
bytes_append (x ∷ a) b ha hb zero = ha 0
bytes_append (x ∷ a) b ha hb (suc i) = bytes_append a b (λ k. ha (suc k)) hb i

bytes_take : (n : ℕ) (xs : List ℕ) → IsBytes xs → IsBytes (take n xs)
bytes_take zero xs h i = omega arith
bytes_take (suc n) [] h i = omega arith
bytes_take (suc n) (x ∷ xs) h zero = h 0
bytes_take (suc n) (x ∷ xs) h (suc i) = bytes_take n xs (λ k. h (suc k)) i

bytes_drop : (n : ℕ) (xs : List ℕ) → IsBytes xs → IsBytes (drop n xs)
bytes_drop zero xs h = h
bytes_drop (suc n) [] h = bytes_nil
bytes_drop (suc n) (x ∷ xs) h = bytes_drop n xs (λ k. h (suc k))

-- ---- whole groups

group_is_bytes : (m0 m1 m2 m3 : ℕ) → m0 < 64 → m1 < 64 → m2 < 64 → m3 < 64 → IsBytes (decode_group m0 m1 m2 m3)
group_is_bytes m0 m1 m2 m3 h0 h1 h2 h3 =
    bytes_cons (m0 * 4 + m1 / 16) ((m1 % 16 * 16 + m2 / 4) ∷ (m2 % 4 * 64 + m3) ∷ []) (omega arith)
    (bytes_cons (m1 % 16 * 16 + m2 / 4) ((m2 % 4 * 64 + m3) ∷ []) (omega arith) (bytes_cons (m2 % 4 * 64 + m3) [] (omega arith) bytes_nil))

neither : (a b : Option DecodeError) → or_else a b ≡ None → (a ≡ None) × (b ≡ None)
neither None b e = (refl, e)
neither (Some x) b e = absurd cc

by_test : (bad : Bool) (fault : DecodeError) → cond bad (Some fault) None ≡ None → bad ≡ false
by_test true fault e = absurd cc
by_test false fault e = refl

symbol_fits : (dec s : List ℕ) (i : ℕ) → IsDecodeTable dec → IsBytes s → symbol_error dec s i ≡ None → slice_index dec (slice_index s i) < 64
symbol_fits dec s i table bytes e =
    let good = by_test (slice_index dec (slice_index s i) == 255) _ e in
    elim (table (slice_index s i) (bytes i)) [ inl bad ↦ absurd (let h : (slice_index dec (slice_index s i) == 255) ≡ true = ap (λ (n : ℕ). n == 255) bad in cc) | inr fits ↦ fits ]

one_group : (dec s : List ℕ) (i : ℕ) → IsDecodeTable dec → IsBytes s → group_error dec s i ≡ None → IsBytes (group_bytes dec s i)
one_group dec s i table bytes e =
    let first = neither _ _ e in
    let second = neither _ _ first.1 in
    let third = neither _ _ second.1 in
    group_is_bytes _ _ _ _ (symbol_fits dec s i table bytes first.0) (symbol_fits dec s (i + 1) table bytes second.0)
    (symbol_fits dec s (i + 2) table bytes third.0) (symbol_fits dec s (i + 3) table bytes third.1)

all_groups : (dec s : List ℕ) (q : ℕ) → IsDecodeTable dec → IsBytes s → groups_error dec s q ≡ None → IsBytes (groups_bytes dec s q)
unfolding groups_error groups_bytes
all_groups dec s zero table bytes e = bytes_nil
all_groups dec s (suc q) table bytes e =
    let both = neither (groups_error dec s q) (group_error dec s (4 * q)) e in
    bytes_append (groups_bytes dec s q) (group_bytes dec s (4 * q)) (all_groups dec s q table bytes both.0) (one_group dec s (4 * q) table bytes both.1)

-- ---- the last group

four_zeros : (k : ℕ) → slice_index (0 ∷ 0 ∷ 0 ∷ 0 ∷ []) k < 64
four_zeros zero = omega arith
four_zeros (suc zero) = omega arith
four_zeros (suc (suc zero)) = omega arith
four_zeros (suc (suc (suc zero))) = omega arith
four_zeros (suc (suc (suc (suc k)))) = omega arith

none_yet : IsLeftover no_leftover 0
none_yet = (omega arith, omega arith, omega arith, four_zeros)

by_scan : (enc dec s : List ℕ) (pad at : ℕ) (is_empty allow : Bool) (mode : DecodePaddingMode) (scanned : _) → is_inverse enc dec ≡ true → IsBytes s → length s ≤ at + 4
    → scan_last dec pad at s ≡ scanned → scan_error is_empty at allow mode scanned ≡ None → IsBytes (scan_bytes scanned)
by_scan enc dec s pad at is_empty allow mode (Ok st) table bytes short is e =
    let rest : List ℕ = drop at s in
    let few : length rest ≤ 4 = omega (arith, length-drop at s) in
    let each = (IsScanned-scan enc dec rest pad at rest no_leftover st 0 table (bytes_drop at s bytes) few (omega arith) refl
    ((refl, refl, λ j lt. absurd (omega arith), λ j low lt. absurd (omega arith)), none_yet) is).1.3 in
    bytes_take _ _ (group_is_bytes _ _ _ _ (each 0) (each 1) (each 2) (each 3))
by_scan enc dec s pad at is_empty allow mode (Err fault) table bytes short is e = absurd cc

-- ---- the whole

outcome_ok : (error : Option DecodeError) (bytes b : List ℕ) → decode_outcome error bytes ≡ Ok b → error ≡ None
outcome_ok None bytes b e = refl
outcome_ok (Some fault) bytes b e = absurd cc

pub decoded_is_bytes : (e : GeneralPurpose) (s b : List ℕ) → IsBytes s → decode_of e s ≡ Ok b → IsBytes b
decoded_is_bytes e s b bytes ok =
    let inverse = are_tables_inverse e.encode_table e.decode_table e.padding.value e.tables in
    let table = IsDecodeTable_from e.encode_table e.decode_table inverse in
    let at = 4 * groups_before_last (length s) in
    let short : length s ≤ at + 4 = omega arith in
    let sound = outcome_ok _ _ b ok in
    let lone = neither _ _ sound in
    let parts = neither _ _ lone.1 in
    decode_of_bytes e s b
    (bytes_append _ _ (all_groups e.decode_table s (groups_before_last (length s)) table bytes parts.0)
    (by_scan e.encode_table e.decode_table s e.padding.value at (length s == 0) e.config.decode_allow_trailing_bits e.config.decode_padding_mode (scan_last e.decode_table e.padding.value at s) inverse bytes short refl parts.1))
    ok
