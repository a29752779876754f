-- Items and objects that were written are read again (dir-spec, meta-format).
use Rattle.std.specs.Prelude.{◌≡◌, ℕ, ◌+◌, false, ◌&&◌, List, ◌++◌, length, Some}
use Rattle.base64.specs.GeneralPurpose.{IsBytes}
use Rattle.item_terms.specs.{Words.begins_dash, Items.{contents, nothing}}
use Rattle.dirdoc_grammar.specs.{Bodies.{body_text, decoded_bytes}, Writing.{AreWritable, NewItem, all_written}}
use Rattle.dirdoc_grammar.specs.Writing.{in_front, is_open, items_text}

-- Items that were written are the first that are read, and what follows them is read as it would be alone, unless an object
-- may follow and the next byte is '-'.
abbrev pub ReadsAgain : Type 0
ReadsAgain =
    (limit place : ℕ) (items : List NewItem) (rest : List ℕ) → AreWritable limit place items → is_open items && begins_dash rest ≡ false
    → contents limit place nothing (items_text items ++ rest) ≡ in_front (all_written place items) (contents limit (place + length (items_text items)) nothing rest)

-- The lines of an object that was written spell its bytes.
abbrev pub ObjectsAreReadAgain : Type 0
ObjectsAreReadAgain = (bytes : List ℕ) → IsBytes bytes → decoded_bytes (body_text bytes) ≡ Some bytes
