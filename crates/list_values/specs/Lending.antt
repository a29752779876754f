-- What the private functions of this crate say.
use Rattle.std.specs.Prelude.{ℕ, List, [], ◌∷◌, ◌++◌, map, unwrap_or, ℤ, pos, Option, Some, None, option_and_then}
use Rattle.std.specs.{Prelude.{slice_get, if◌then◌else◌}, Borrow.Bor, List.prefix_len, Option.option_map}
use Rattle.dir_values.specs.Digests.{bytes_below}
use Rattle.list_values.specs.{declared.{named.Named.Named, number_range.NumberRange.NumberRange}, Maps.named_value}
use Rattle.list_values.specs.{Maps.has_name, NumberSets.{numbers_that, in_ranges}, Params.number_in, Parts.parts_of}
use Rattle.list_values.specs.Protocols.{all_of, range_of, ranges_in}

module _ {V : Type 0} where
  -- the values by the names that are borrowed
  abbrev pub entries_in : List (Bor (List ℕ) × V) → List (Named V)
  entries_in entries = map (λ entry. named_value entry.0.now entry.1) entries

  -- how many values stand before the first whose name does not come before a name
  abbrev pub place_of : List (Named V) → List ℕ → ℕ
  place_of entries name = prefix_len (λ (entry : Named V). bytes_below entry.name name) entries

  -- the value of the entry at a place, if it has a name
  abbrev pub value_there : List (Named V) → ℕ → List ℕ → Option V
  value_there entries place name =
      option_and_then (λ (entry : Named V). if has_name name entry then Some entry.value else None) (slice_get entries place)

-- the number of the param that a text spells, and 0 of another
abbrev pub number_or_zero : List ℕ → ℤ
number_or_zero text = unwrap_or (number_in text) (pos 0)

-- texts, each behind a byte
abbrev pub behind_each : ℕ → List (List ℕ) → List ℕ
behind_each separator [] = []
behind_each separator (text ∷ rest) = separator ∷ (text ++ behind_each separator rest)

-- the numbers of some ranges, if they are there
abbrev pub numbers_if : Option (List NumberRange) → Option (List ℕ)
numbers_if ranges = option_map (λ there. numbers_that (in_ranges there)) ranges

-- the numbers that a text lists
abbrev pub listed_numbers : List ℕ → Option (List ℕ)
listed_numbers text = numbers_if (ranges_in text)

-- the numbers that the parts of a text list
abbrev pub part_numbers : List ℕ → Option (List ℕ)
part_numbers text = numbers_if (all_of (map range_of (parts_of text)))
