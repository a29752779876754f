-- Versions of Tor (version-spec), and the order of `v` values.
use Rattle.std.specs.Prelude.{ℕ, ◌==◌, nat_le, Bool, ◌&&◌, ◌||◌, List, [], length, take, drop, codes, Option, Some}
use Rattle.std.specs.{Prelude.{None, option_map, option_and_then, if◌then◌else◌}, List.{list_all, list_any}}
use Rattle.std.specs.{List.{before_first, after_first}, Option.option_cmp, Str.bytes_eq, declared.cmp.Ordering.Ordering}
use Rattle.std.specs.{Ordering.{nat_cmp, ordering_then}, Cmp.Lexicographic.slice_cmp}
use Rattle.item_terms.specs.{Bytes.hyphen, Words.is_letter_or_digit}
use Rattle.dir_values.specs.Numbers.{number_of}

-- what stands between the numbers of a version
abbrev pub full_stop : ℕ
full_stop = 46

-- what may stand in the tag of a version besides
abbrev pub plus : ℕ
plus = 43

-- a version: four numbers, the tag, which is empty where there is none, and the text that spells it
pub record Version : Type 0 where
  pub major : ℕ
  pub minor : ℕ
  pub micro : ℕ
  pub patch : ℕ
  pub tag : List ℕ
  pub text : List ℕ

-- ---- the form

-- whether a mark stands in a text
abbrev pub has_mark : ℕ → List ℕ → Bool
has_mark mark text = list_any (λ byte. byte == mark) text

-- the text before the first such mark
abbrev pub front_of : ℕ → List ℕ → List ℕ
front_of mark text = before_first (λ byte. byte == mark) text

-- the text behind the first such mark
abbrev pub behind : ℕ → List ℕ → List ℕ
behind mark text = after_first (λ byte. byte == mark) text

-- the last of the numbers, PATCH, which is 0 where there are three of them; the text begins at the third
abbrev pub patch_in : List ℕ → Option ℕ
patch_in text = if has_mark full_stop text then number_of (behind full_stop text) else Some 0

-- a byte of a tag: a letter, a digit, `-`, `.` or `+`
abbrev pub is_tag_byte : ℕ → Bool
is_tag_byte byte = is_letter_or_digit byte || byte == hyphen || byte == full_stop || byte == plus

-- a tag: one such byte or more
abbrev pub is_tag : List ℕ → Bool
is_tag text = nat_le 1 (length text) && list_all is_tag_byte text

-- the tag of a version: what stands behind its first `-`, and none where there is no `-`
abbrev pub tag_in : List ℕ → Option (List ℕ)
tag_in text =
    if has_mark hyphen text then (if is_tag (behind hyphen text) then Some (behind hyphen text) else None)
    else Some []

-- the version of these numbers, this tag and this text, if all are there
abbrev pub version_with : Option ℕ → Option ℕ → Option ℕ → Option ℕ → Option (List ℕ) → List ℕ → Option Version
version_with major minor micro patch tag text =
    option_and_then (λ a. option_and_then (λ b. option_and_then (λ c. option_and_then (λ d.
    option_map (λ t. record { major = a; minor = b; micro = c; patch = d; tag = t; text = text })
    tag) patch) micro) minor) major

-- the version whose numbers this text spells, with `.` between them
abbrev pub version_by : List ℕ → List ℕ → Option Version
version_by numbers text =
    version_with (number_of (front_of full_stop numbers)) (number_of (front_of full_stop (behind full_stop numbers)))
    (number_of (front_of full_stop (behind full_stop (behind full_stop numbers))))
    (patch_in (behind full_stop (behind full_stop numbers))) (tag_in text) text

-- the version that a text spells: MAJOR.MINOR.MICRO, .PATCH where it is there, and -TAG where it is there
abbrev pub version_of : List ℕ → Option Version
version_of text = version_by (front_of hyphen text) text

-- ---- the order

-- versions are ordered by their numbers, then by their tags, none being the first, then by their texts
abbrev pub version_order : Version → Version → Ordering
version_order a b =
    ordering_then (ordering_then (ordering_then (ordering_then (ordering_then
    (nat_cmp a.major b.major) (nat_cmp a.minor b.minor)) (nat_cmp a.micro b.micro)) (nat_cmp a.patch b.patch))
    (slice_cmp nat_cmp a.tag b.tag)) (slice_cmp nat_cmp a.text b.text)

-- the version that a `v` value names: `Tor`, a space and the version
abbrev pub named_version : List ℕ → Option Version
named_version value =
    if nat_le 4 (length value) && bytes_eq (take 4 value) (codes "Tor ") then version_of (drop 4 value) else None

-- the order of `v` values: one that names no version is older than each that does; two such are ordered by their bytes
abbrev pub named_order : List ℕ → List ℕ → Ordering
named_order a b = ordering_then (option_cmp version_order (named_version a) (named_version b)) (slice_cmp nat_cmp a b)
