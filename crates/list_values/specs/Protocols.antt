-- Versions of protocols: numbers from 0 to 63 by the protocols' names (dir-spec, the `recommended-..-protocols` and
-- `required-..-protocols` lines).
use Rattle.std.specs.Prelude.{ℕ, nat_le, Bool, not, ◌&&◌, List, [], ◌∷◌, ◌++◌, map, is_some, unwrap_or, Option, Some}
use Rattle.std.specs.{Prelude.{None, option_and_then, Result, if◌then◌else◌}, List.{fold, find, join_with_byte}}
use Rattle.std.specs.Option.{option_map}
use Rattle.item_terms.specs.{Bytes.{space, hyphen}, Words.words_of}
use Rattle.dir_values.specs.{Arguments.{Argument, arguments_at}, FlagSets.{is_name, unless_wrong}, Numbers.number_of}
use Rattle.dir_values.specs.{Versions.{has_mark, front_of, behind}, declared.refusal.ValueRefusal.ValueRefusal}
use Rattle.list_values.specs.{declared.{named.Named.Named, number_range.NumberRange.NumberRange}, Equations.equals}
use Rattle.list_values.specs.{Equations.{left_side, right_side}, Maps.{value_at, with_value}, NumberSets.has_number}
use Rattle.list_values.specs.{NumberSets.{in_ranges, numbers_that, united_numbers, numbers_text}, Parts.parts_of}

-- ---- what a text spells

-- a number, if it is at most 63
abbrev pub if_small : ℕ → Option ℕ
if_small number = if nat_le number 63 then Some number else None

-- the number from 0 to 63 that digits spell
unfoldable pub listed_number : List ℕ → Option ℕ
listed_number text = option_and_then if_small (number_of text)

-- the range from a number to one that does not come before it
abbrev pub range_between : Option ℕ → Option ℕ → Option NumberRange
range_between (Some low) (Some high) = if nat_le low high then Some (record { low = low; high = high }) else None
range_between _ _ = None

-- the range that `low-high` or one number spells
unfoldable pub range_of : List ℕ → Option NumberRange
range_of text =
    if has_mark hyphen text
    then range_between (listed_number (front_of hyphen text)) (listed_number (behind hyphen text))
    else range_between (listed_number text) (listed_number text)

-- the ranges, if each is there
abbrev pub all_of : List (Option NumberRange) → Option (List NumberRange)
all_of [] = Some []
all_of (None ∷ rest) = None
all_of (Some range ∷ rest) = option_map (λ ranges. range ∷ ranges) (all_of rest)

-- the ranges that the parts of a text between its commas spell, if each spells one; an empty text has none
abbrev pub ranges_in : List ℕ → Option (List NumberRange)
ranges_in [] = Some []
ranges_in (byte ∷ text) = all_of (map range_of (parts_of (byte ∷ text)))

-- whether a text is the name of a protocol, `=` and ranges
abbrev pub is_protocol : List ℕ → Bool
is_protocol text = has_mark equals text && (is_name (left_side text) && is_some (ranges_in (right_side text)))

-- the place of the first argument that is none
abbrev pub wrong_protocol : List Argument → Option ℕ
wrong_protocol arguments =
    option_map (λ (argument : Argument). argument.place) (find (λ (argument : Argument). not (is_protocol argument.text)) arguments)

-- the numbers that such a text lists, and none of another
abbrev pub numbers_in : List ℕ → List ℕ
numbers_in text = numbers_that (in_ranges (unwrap_or (ranges_in (right_side text)) []))

-- ---- protocols

-- the numbers of a protocol
abbrev pub numbers_at : List (Named (List ℕ)) → List ℕ → List ℕ
numbers_at protocols name = unwrap_or (value_at protocols name) []

-- whether a protocol has a number
abbrev pub has_version : List (Named (List ℕ)) → List ℕ → ℕ → Bool
has_version protocols name number = has_number (numbers_at protocols name) number

-- protocols with the numbers of a word: those of one name are united
abbrev pub with_protocol : List (Named (List ℕ)) → List ℕ → List (Named (List ℕ))
with_protocol protocols word =
    with_value protocols (left_side word) (united_numbers (numbers_at protocols (left_side word)) (numbers_in word))

-- the protocols of some words, by name
abbrev pub as_protocols : List (List ℕ) → List (Named (List ℕ))
as_protocols words = fold with_protocol [] words

-- the protocols that a text spells
abbrev pub protocols_of : List ℕ → Result (List (Named (List ℕ))) ValueRefusal
protocols_of text = unless_wrong (wrong_protocol (arguments_at 0 text)) (as_protocols (words_of text))

-- a protocol: its name, `=` and its numbers
abbrev pub protocol_text : Named (List ℕ) → List ℕ
protocol_text protocol = protocol.name ++ equals ∷ numbers_text protocol.value

-- protocols with single spaces between them
abbrev pub protocols_text : List (Named (List ℕ)) → List ℕ
protocols_text protocols = join_with_byte space (map protocol_text protocols)
