-- Shared random values: what their texts spell, and how they are written (dir-spec, "Vote and consensus status document
-- formats").
use Rattle.std.specs.Prelude.{ℕ, ◌==◌, Bool, ◌&&◌, List, [], ◌∷◌, ◌++◌, Option, length, slice_index, take, codes}
use Rattle.std.specs.{Prelude.{decimal, if◌then◌else◌}, Str.bytes_eq}
use Rattle.item_terms.specs.Bytes.{space}
use Rattle.dir_bytes.specs.FieldTexts.{base64_text}
use Rattle.dir_values.specs.{Digests.digest2, declared.digest.Digest2.Digest2}
use Rattle.value_groups.specs.declared.value.SharedRandom.{SharedRandom}

-- the text without the one `=` that fills its 43 characters up to 44
abbrev pub without_padding : List ℕ → List ℕ
without_padding text = if (length text == 44) && (slice_index text 43 == 61) then take 43 text else text

-- the 32 bytes that 43 characters of strict base64 spell, or these and the `=` that fills them up
abbrev pub padded_digest : List ℕ → Option Digest2
padded_digest text = digest2 (without_padding text)

-- the text of a value, with the `=` that fills it up
abbrev pub padded_text : Digest2 → List ℕ
padded_text value = base64_text value.0 ++ codes "="

-- the text of a shared random value: its count, and the value
abbrev pub random_text : SharedRandom → List ℕ
random_text random = decimal random.count ++ space ∷ padded_text random.value

-- whether both are one value, with one count
abbrev pub same_random : SharedRandom → SharedRandom → Bool
same_random one other = (one.count == other.count) && bytes_eq one.value.0 other.value.0
