-- The numbers that a rehearsal draws.
use Rattle.std.specs.Prelude.{ℕ, zero, suc, ◌+◌, ◌*◌, ◌/◌, ◌%◌}

-- the number after another, below 2^64
abbrev pub next_number : ℕ → ℕ
next_number number = (number * 6364136223846793005 + 1442695040888963407) % 18446744073709551616

-- the number that stands so many draws after another
unfoldable pub number_after : ℕ → ℕ → ℕ
number_after number zero = number
number_after number (suc draws) = next_number (number_after number draws)

-- what is drawn so many draws after a number: the upper half of the next one
abbrev pub drawn_number : ℕ → ℕ → ℕ
drawn_number number draws = next_number (number_after number draws) / 4294967296
