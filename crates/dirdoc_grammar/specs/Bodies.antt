-- What is written for an object, and what an object's lines spell (dir-spec, meta-format; RFC 4648, section 4).
use Rattle.std.specs.{Prelude.{ℕ, ◌+◌, ◌==◌, List, [], ◌∷◌, ◌++◌, Option, if◌then◌else◌}, Result.result_ok}
use Rattle.base64.specs.{Engines.standard, GeneralPurpose.{decode_of, encode_of}}
use Rattle.item_terms.specs.{Base64Text.joined_text, Words.{begins, ends, dashes}}

-- the bytes in standard base64, with its padding
unfoldable pub base64_of : List ℕ → List ℕ
base64_of bytes = encode_of standard bytes

-- The text in lines of 64 characters, each with its NL, of which the last may be shorter; count characters are there already
-- of the line that is written.
abbrev pub in_lines : ℕ → List ℕ → List ℕ
in_lines count [] = if count == 0 then [] else 10 ∷ []
in_lines count (b ∷ text) = if count + 1 == 64 then b ∷ 10 ∷ in_lines 0 text else b ∷ in_lines (count + 1) text

-- the lines of an object that spell these bytes
abbrev pub body_text : List ℕ → List ℕ
body_text bytes = in_lines 0 (base64_of bytes)

-- the first line of an object, without its NL
abbrev pub begin_line : List ℕ → List ℕ
begin_line words = begins ++ words ++ dashes

-- its last line, without its NL
abbrev pub end_line : List ℕ → List ℕ
end_line words = ends ++ words ++ dashes

-- an object of these words and bytes
abbrev pub object_text : List ℕ → List ℕ → List ℕ
object_text words bytes = begin_line words ++ 10 ∷ (body_text bytes ++ end_line words ++ 10 ∷ [])

-- the bytes that the lines of an object spell, where they are base64
unfoldable pub decoded_bytes : List ℕ → Option (List ℕ)
decoded_bytes lines = result_ok (decode_of standard (joined_text lines))
