-- The canonical form of a relay's family (dir-spec, "Computing microdescriptors", the `family` line). Which names are
-- left out and which are kept is this project's choice.
use Rattle.std.specs.Prelude.{◌≡◌, ℕ, ◌+◌, ◌==◌, nat_le, Bool, true, false, ◌&&◌, ◌||◌, List, [], ◌∷◌, map, take, drop}
use Rattle.std.specs.{Prelude.{Option, Some, None, if◌then◌else◌, filter_map}, List.{join_with_byte, list_any}}
use Rattle.std.specs.{Option.option_map_or, Str.bytes_eq}
use Rattle.item_terms.specs.Bytes.{space}
use Rattle.dir_values.specs.{Digests.{fingerprint, fingerprint_text}, FlagSets.{Ascend, as_set, has_flag}}
use Rattle.dir_values.specs.{Names.is_nickname, declared.digest.Fingerprint.Fingerprint}

-- `$`, which may stand in front of a fingerprint
abbrev pub dollar : ℕ
dollar = 36

-- whether a text begins with `$`
abbrev pub has_dollar : List ℕ → Bool
has_dollar [] = false
has_dollar (byte ∷ text) = byte == dollar

-- a text without the `$` in front, where there is one
abbrev pub without_dollar : List ℕ → List ℕ
without_dollar text = if has_dollar text then drop 1 text else text

-- whether nothing stands here, or `=` or `~` in front: behind them stands a nickname, which is dropped
abbrev pub ends_here : List ℕ → Bool
ends_here [] = true
ends_here (byte ∷ text) = byte == 61 || byte == 126

-- the fingerprint that a name spells: 40 hex digits, with or without `$`
abbrev pub fingerprint_in : List ℕ → Option Fingerprint
fingerprint_in name =
    if ends_here (drop 40 (without_dollar name)) then fingerprint (take 40 (without_dollar name)) else None

-- a letter in lower case, and any other byte as it is
abbrev pub lower : ℕ → ℕ
lower byte = if nat_le 65 byte && nat_le byte 90 then byte + 32 else byte

-- a fingerprint behind `$`, in upper case
abbrev pub behind_dollar : Fingerprint → List ℕ
behind_dollar identity = dollar ∷ fingerprint_text identity

-- the canonical form of a name that spells no fingerprint: a nickname in lower case; none of another that begins with
-- `$`; any other as it is
abbrev pub other_member : List ℕ → Option (List ℕ)
other_member name = if is_nickname name then Some (map lower name) else if has_dollar name then None else Some name

-- the canonical form of a name that spells this fingerprint, or none
abbrev pub member_with : List ℕ → Option Fingerprint → Option (List ℕ)
member_with name (Some identity) = Some (behind_dollar identity)
member_with name None = other_member name

-- the canonical form of a name, where it has one
unfoldable pub member_of : List ℕ → Option (List ℕ)
member_of name = member_with name (fingerprint_in name)

-- the canonical family that names make: the set of their canonical forms, sorted by bytes
abbrev pub family_of : List (List ℕ) → List (List ℕ)
family_of names = as_set (filter_map member_of names)

-- the names of a family as a line has them: with single spaces between them
abbrev pub family_text : List (List ℕ) → List ℕ
family_text names = join_with_byte space names

-- whether a text is the canonical form of a name
abbrev pub is_form_of : List ℕ → List ℕ → Bool
is_form_of text name = option_map_or (λ member. bytes_eq member text) (member_of name) false

-- A canonical family ascends by its bytes, each name once.
abbrev pub FamiliesAscend : Type 0
FamiliesAscend = (names : List (List ℕ)) → Ascend (family_of names)

-- A text is in a canonical family exactly where it is the canonical form of one of the names that make it.
abbrev pub FamiliesHaveTheirNames : Type 0
FamiliesHaveTheirNames = (names : List (List ℕ)) (text : List ℕ)
    → has_flag (family_of names) text ≡ list_any (is_form_of text) names
