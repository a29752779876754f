-- Bytes as hex digits, however many.
use Rattle.std.specs.Prelude.{◌≡◌, ℕ, ◌/◌, List, length, Option, Some}
use Rattle.base64.specs.GeneralPurpose.{IsBytes}
use Rattle.dir_bytes.specs.{Fields.hex, FieldTexts.hex_text}

-- the bytes that are spelled as two hex digits each, of either case, however many
abbrev pub hex_bytes : List ℕ → Option (List ℕ)
hex_bytes text = hex (length text / 2) text

-- bytes in hex, however many
abbrev pub HexBytesAreReadAgain : Type 0
HexBytesAreReadAgain = (bytes : List ℕ) → IsBytes bytes → hex_bytes (hex_text bytes) ≡ Some bytes
