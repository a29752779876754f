-- Bytes as hex and base64: how long the texts are, and how they grow.
use Rattle.std.proofs.Common.{◌≡◌, ℕ, ◌+◌, ◌*◌, ◌/◌, ◌%◌, ◌<◌, ◌≤◌, List, [], ◌∷◌, ◌++◌, length, take, drop, get_or}
use Rattle.std.proofs.{Common.{refl, sym, ap, ◌∙◌, arith, length-take}, lemmas.List.{take_more, take-append-drop}}
use Rattle.std.specs.Prelude.{slice_index}
use Rattle.hex.{specs.Hex.{encode_with, upper_digits}, proofs.HexLemmas.length-encode_with}
use Rattle.base64.{specs.Engines.standard_no_pad, proofs.EngineFacts.encode_of-append}
use Rattle.dir_bytes.{specs.FieldTexts.{hex_text, base64_text}, proofs.Symbols.length-encode_of}

pub length-hex_text : (bytes : List ℕ) → length (hex_text bytes) ≡ 2 * length bytes
unfolding hex_text
length-hex_text bytes = length-encode_with upper_digits bytes

encode_with-push : (t xs : List ℕ) (y : ℕ) → encode_with t (xs ++ y ∷ []) ≡ encode_with t xs ++ slice_index t (y / 16) ∷ slice_index t (y % 16) ∷ []
unfolding encode_with
encode_with-push t [] y = refl
encode_with-push t (x ∷ xs) y = ap (λ (l : List ℕ). slice_index t (x / 16) ∷ slice_index t (x % 16) ∷ l) (encode_with-push t xs y)

pub hex_text-nil : hex_text [] ≡ []
unfolding hex_text encode_with
hex_text-nil = refl

-- one byte more is two digits more
pub hex_text_more : (bytes : List ℕ) (i : ℕ) → i < length bytes → hex_text (take (i + 1) bytes) ≡ hex_text (take i bytes) ++ get_or upper_digits (get_or bytes i 0 / 16) 0 ∷ get_or upper_digits (get_or bytes i 0 % 16) 0 ∷ []
unfolding hex_text
hex_text_more bytes i lt = ap hex_text (take_more bytes i 0 lt) ∙ encode_with-push upper_digits (take i bytes) (get_or bytes i 0)

pub length-base64_text : (bytes : List ℕ) → length (base64_text bytes) ≡ (4 * length bytes + 2) / 3
unfolding base64_text
length-base64_text bytes = length-encode_of bytes

-- 48 bytes are a whole number of groups, so that what follows them is spelled alone
pub base64_text-piece : (bytes : List ℕ) → 48 ≤ length bytes → base64_text bytes ≡ base64_text (take 48 bytes) ++ base64_text (drop 48 bytes)
unfolding base64_text
base64_text-piece bytes enough =
    ap base64_text (sym (take-append-drop 48 bytes)) ∙ encode_of-append standard_no_pad (take 48 bytes) (drop 48 bytes) (omega (arith, length-take 48 bytes))

pub ruleset spelling = (length-hex_text, hex_text-nil, hex_text_more, length-base64_text, base64_text-piece)
