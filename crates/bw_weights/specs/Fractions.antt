-- Fractions of a scale.
use Rattle.std.specs.Prelude.{ℤ, pos, ◌*ℤ◌, int_div}

-- s n / d, truncated toward zero
abbrev pub fraction : (s n d : ℤ) → ℤ
fraction s n d = int_div (s *ℤ n) d

-- n / 2, truncated toward zero
abbrev pub half : ℤ → ℤ
half n = int_div n (pos 2)

-- n / 3, truncated toward zero
abbrev pub third : ℤ → ℤ
third n = int_div n (pos 3)
