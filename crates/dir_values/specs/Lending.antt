-- What the private functions of this crate say.
use Rattle.std.specs.Prelude.{ℕ, ◌-◌, nat_le, Bool, true, false, not, List, [], ◌∷◌, ◌++◌, length, slice_get, decimal}
use Rattle.std.specs.{Prelude.{Option, Some, None, if◌then◌else◌}, Option.option_map_or, List.{list_all, prefix_len}}
use Rattle.std.specs.Str.{bytes_eq}
use Rattle.item_terms.specs.{Bytes.space, Words.is_blank}
use Rattle.dir_values.specs.{Digests.bytes_below, FlagSets.is_name_byte, declared.port_range.PortRange.PortRange}

-- how many flags stand before the first that does not come before a flag
abbrev pub place_of : List (List ℕ) → List ℕ → ℕ
place_of flags flag = prefix_len (λ other. bytes_below other flag) flags

-- whether a flag stands at a place
abbrev pub is_at : List (List ℕ) → ℕ → List ℕ → Bool
is_at flags place flag = option_map_or (λ other. bytes_eq other flag) (slice_get flags place) false

-- how many blanks stand in front
abbrev pub blanks : List ℕ → ℕ
blanks text = prefix_len is_blank text

-- how many bytes stand in front of the first blank
abbrev pub word_len : List ℕ → ℕ
word_len text = prefix_len (λ byte. not (is_blank byte)) text

-- whether each byte may stand in the name of a flag
abbrev pub has_name_bytes : List ℕ → Bool
has_name_bytes text = list_all is_name_byte text

-- flags, each after a space
abbrev pub after_text : List (List ℕ) → List ℕ
after_text [] = []
after_text (flag ∷ rest) = space ∷ (flag ++ after_text rest)

-- whether each of some ascending flags comes before a flag
abbrev pub comes_last : List (List ℕ) → List ℕ → Bool
comes_last flags flag = option_map_or (λ last. bytes_below last flag) (slice_get flags (length flags - 1)) true

-- numbers, each after a space
abbrev pub after_numbers : List ℕ → List ℕ
after_numbers [] = []
after_numbers (number ∷ rest) = space ∷ decimal number ++ after_numbers rest

-- the range, if it begins at a port or behind it
abbrev pub from_port : ℕ → Option PortRange → Option PortRange
from_port next None = None
from_port next (Some range) = if nat_le next range.low then Some range else None
