-- What the maps and sets of this crate mean.
use Rattle.std.specs.{Prelude.{◌≡◌, ℕ, List, Some, if◌then◌else◌}, Str.bytes_eq}
use Rattle.list_values.specs.{declared.named.Named.Named, Maps.{value_at, with_value}, NumberSets.has_number}
use Rattle.list_values.specs.NumberSets.{in_ranges, ranges_of}

-- A value that is put in for a name is found for it, and nothing else changes.
abbrev pub ValuesAreFound : (V : Type 0) → Type 0
ValuesAreFound V = (entries : List (Named V)) (name : List ℕ) (value : V) (other : List ℕ)
    → value_at (with_value entries name value) other ≡ (if bytes_eq name other then Some value else value_at entries other)

-- The ranges of some numbers have these numbers, and no others.
abbrev pub RangesHaveTheirNumbers : Type 0
RangesHaveTheirNumbers = (numbers : List ℕ) (number : ℕ) → in_ranges (ranges_of numbers) number ≡ has_number numbers number
