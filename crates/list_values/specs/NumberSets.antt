-- Sets of numbers from 0 to 63, as ascending lists, and the ranges in which they are written.
use Rattle.std.specs.Prelude.{ℕ, ◌+◌, ◌-◌, ◌==◌, nat_le, Bool, ◌&&◌, ◌||◌, List, [], ◌∷◌, ◌++◌, filter, map, decimal}
use Rattle.std.specs.{Prelude.if◌then◌else◌, List.{list_any, join_with_byte, range_with_len}}
use Rattle.item_terms.specs.Bytes.{comma, hyphen}
use Rattle.list_values.specs.declared.number_range.NumberRange.{NumberRange}

-- the numbers from one on to 63
unfoldable pub numbers_from : ℕ → List ℕ
numbers_from first = range_with_len first (64 - first)

-- the numbers from 0 to 63 that pass a test
abbrev pub numbers_that : (ℕ → Bool) → List ℕ
numbers_that test = filter test (numbers_from 0)

-- whether a number is among others
abbrev pub has_number : List ℕ → ℕ → Bool
has_number numbers number = list_any (λ other. other == number) numbers

-- the numbers of both sets together
abbrev pub united_numbers : List ℕ → List ℕ → List ℕ
united_numbers one other = numbers_that (λ number. has_number one number || has_number other number)

-- ---- ranges

-- the numbers from a low to a high one
abbrev pub Range : Type 0
Range = NumberRange

-- whether a range has a number
abbrev pub in_range : NumberRange → ℕ → Bool
in_range range number = nat_le range.low number && nat_le number range.high

-- whether one of some ranges has a number
abbrev pub in_ranges : List NumberRange → ℕ → Bool
in_ranges ranges number = list_any (λ range. in_range range number) ranges

-- a number in front of ranges of later ones: the first range grows where it begins next to the number
abbrev pub with_number : ℕ → List NumberRange → List NumberRange
with_number number [] = record { low = number; high = number } ∷ []
with_number number (first ∷ rest) =
    if number + 1 == first.low then record { low = number; high = first.high } ∷ rest
    else record { low = number; high = number } ∷ first ∷ rest

-- the fewest ranges of ascending numbers
abbrev pub ranges_of : List ℕ → List NumberRange
ranges_of [] = []
ranges_of (number ∷ rest) = with_number number (ranges_of rest)

-- a range as `low-high`, or as its one number
unfoldable pub range_text : NumberRange → List ℕ
range_text range =
    if range.low == range.high then decimal range.low else decimal range.low ++ hyphen ∷ decimal range.high

-- numbers in the fewest ranges, with commas between them
abbrev pub numbers_text : List ℕ → List ℕ
numbers_text numbers = join_with_byte comma (map range_text (ranges_of numbers))
