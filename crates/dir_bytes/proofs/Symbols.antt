-- What strict base64 decodes to, by its length.
use Rattle.std.proofs.Common.{◌≡◌, ℕ, ◌<◌, ◌*◌, ◌+◌, ◌/◌, nat_lt, Bool, true, false, if◌then◌else◌, List, ◌++◌, length}
use Rattle.std.proofs.Common.{Ok, Err, Result, Option, Some, None, inl, inr, refl, sym, ap, ◌∙◌, arith}
use Rattle.std.proofs.lemmas.{Bool.{cases_Bool, eq-eqb, ne_eqb, ltb-true}, List.{append-nil, drop_all, length-append}}
use Rattle.std.specs.{Result.result_ok, Option.unwrap_or}
use Rattle.base64.specs.declared.decode.{DecodeError.DecodeError, DecodeSliceError.DecodeSliceError}
use Rattle.base64.specs.{declared.decode.DecodeSliceError.TheVariants.OutputSliceTooSmall, Decode.IsWrittenOver}
use Rattle.base64.specs.Decode.{bytes_fit, decode_outcome, groups_before_last, groups_bytes, groups_error, lone_error}
use Rattle.base64.specs.{Decode.{or_else, or_error, suffix_bytes, suffix_error}, Engines.standard_no_pad}
use Rattle.base64.specs.GeneralPurpose.{IsStrict, decode_of, decode_slice_of, decoded_bytes_of, decoded_of, encode_of}
use Rattle.base64.{specs.Rfc4648.encode_symbols, proofs.{Decoding.length-groups_bytes, RoundTrip.length-encode_symbols}}
use Rattle.dir_bytes.specs.Fields.{base64, of_length}

pub strict : IsStrict standard_no_pad
strict = (refl, refl)

-- the length of a text is that of its bytes, four for three
pub length-encode_of : (bytes : List ℕ) → length (encode_of standard_no_pad bytes) ≡ (4 * length bytes + 2) / 3
length-encode_of bytes = ap (λ (l : List ℕ). length l) (append-nil (encode_symbols standard_no_pad.encode_table bytes)) ∙ length-encode_symbols standard_no_pad.encode_table bytes

-- the bytes count where they are as many as wanted
of_length-same : (count : ℕ) (bytes : List ℕ) → length bytes ≡ count → of_length count (Some bytes) ≡ Some bytes
of_length-same count bytes e = rw (eq-eqb (length bytes) count e) refl

of_length-other : (count : ℕ) (bytes : List ℕ) → (length bytes ≡ count → ⊥) → of_length count (Some bytes) ≡ None
of_length-other count bytes other = rw (ne_eqb (length bytes) count other) refl

pub base64_if_decoded : (count : ℕ) (text bytes : List ℕ) → decode_of standard_no_pad text ≡ Ok bytes → length bytes ≡ count → base64 count text ≡ Some bytes
unfolding decoded_of base64
base64_if_decoded count text bytes ok e =
    ap (λ (r : Result (List ℕ) DecodeError). of_length count (result_ok r)) ok ∙ of_length-same count bytes e

none_if_other_count : (count : ℕ) (text bytes : List ℕ) → decode_of standard_no_pad text ≡ Ok bytes → (length bytes ≡ count → ⊥) → base64 count text ≡ None
unfolding decoded_of base64
none_if_other_count count text bytes ok other =
    ap (λ (r : Result (List ℕ) DecodeError). of_length count (result_ok r)) ok ∙ of_length-other count bytes other

-- what decoding into a room answers, by its tests in their order
abbrev answer_of : Option DecodeError → Bool → Option DecodeError → ℕ → ℕ → Result ℕ DecodeSliceError
answer_of lone small other size room = or_error lone (if small then Err OutputSliceTooSmall else or_error other (bytes_fit size room))

-- a count that was answered is that of all the bytes
answered : (lone : Option DecodeError) (small : Bool) (other : Option DecodeError) (bytes : List ℕ) (room count : ℕ)
    → answer_of lone small other (length bytes) room ≡ Ok count → (length bytes ≡ count) × (decode_outcome (or_else lone other) bytes ≡ Ok bytes)
answered (Some e) small other bytes room count is = cc is
answered None true other bytes room count is = cc is
answered None false (Some e) bytes room count is = cc is
answered None false None bytes room count is = elim (cases_Bool (nat_lt room (length bytes))) [
  | inl past ↦ cc (rw past at is)
  | inr fits ↦ (ap (λ (r : Result ℕ DecodeSliceError). unwrap_or (result_ok r) 0) (rw fits at is), refl)
]

-- a refusal is one of the text, or its bytes are more than the room
refused : (lone : Option DecodeError) (small : Bool) (other : Option DecodeError) (bytes : List ℕ) (room : ℕ) (e : DecodeSliceError)
    → (small ≡ true → room < length bytes) → answer_of lone small other (length bytes) room ≡ Err e
    → of_length room (result_ok (decode_outcome (or_else lone other) bytes)) ≡ None
refused (Some d) small other bytes room e more is = refl
refused None small (Some d) bytes room e more is = refl
refused None true None bytes room e more is = of_length-other room bytes (λ same. omega (arith, same, more refl))
refused None false None bytes room e more is = elim (cases_Bool (nat_lt room (length bytes))) [
  | inl past ↦ of_length-other room bytes (λ same. omega (arith, same, ltb-true room (length bytes) past))
  | inr fits ↦ cc (rw fits at is)
]

abbrev table : List ℕ
table = standard_no_pad.decode_table

abbrev pad : ℕ
pad = standard_no_pad.padding.value

-- the fault of the text's groups of four, if its length has none
abbrev fault_of : List ℕ → Option DecodeError
fault_of text = or_else (groups_error table text (groups_before_last (length text)))
    (suffix_error table pad standard_no_pad.config.decode_allow_trailing_bits standard_no_pad.config.decode_padding_mode (4 * groups_before_last (length text)) text)

-- more groups than the room has are more bytes than it has
more_than_room : (text : List ℕ) (room : ℕ) → nat_lt (room / 3) (groups_before_last (length text)) ≡ true
    → room < length (decoded_bytes_of standard_no_pad text)
more_than_room text room small =
    let groups : ℕ = groups_before_last (length text) in
    omega (arith, ltb-true (room / 3) groups small, length-append (groups_bytes table text groups) (suffix_bytes table pad (4 * groups) text), length-groups_bytes table text groups)

-- the bytes that were written are those that the text spells, if they fill the room
pub base64_if_filled : (text old new : List ℕ) (count : ℕ) → decode_slice_of standard_no_pad text (length old) ≡ Ok count → count ≡ length old
    → IsWrittenOver (decoded_bytes_of standard_no_pad text) old new → base64 (length old) text ≡ Some new
base64_if_filled text old new count is filled written =
    let bytes : List ℕ = decoded_bytes_of standard_no_pad text in
    let all = answered (lone_error table pad text) (nat_lt (length old / 3) (groups_before_last (length text))) (fault_of text) bytes (length old) count is in
    let whole : new ≡ bytes = written ∙ ap (λ (l : List ℕ). bytes ++ l) (drop_all (length bytes) old (omega (arith, all.0, filled))) ∙ append-nil bytes in
    rw whole (base64_if_decoded (length old) text bytes all.1 (all.0 ∙ filled))

-- a text that spells fewer bytes than the room has
pub none_if_fewer : (text old : List ℕ) (count : ℕ) → decode_slice_of standard_no_pad text (length old) ≡ Ok count → (count ≡ length old → ⊥)
    → base64 (length old) text ≡ None
none_if_fewer text old count is other =
    let bytes : List ℕ = decoded_bytes_of standard_no_pad text in
    let all = answered (lone_error table pad text) (nat_lt (length old / 3) (groups_before_last (length text))) (fault_of text) bytes (length old) count is in
    none_if_other_count (length old) text bytes all.1 (λ same. other (sym all.0 ∙ same))

-- a text that is no base64, or that spells more bytes than the room has
pub none_if_refused : (text old : List ℕ) (e : DecodeSliceError) → decode_slice_of standard_no_pad text (length old) ≡ Err e → base64 (length old) text ≡ None
unfolding decoded_of base64
none_if_refused text old e is =
    refused (lone_error table pad text) (nat_lt (length old / 3) (groups_before_last (length text))) (fault_of text) (decoded_bytes_of standard_no_pad text) (length old) e (more_than_room text (length old)) is
