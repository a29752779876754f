-- The range of a weight: 0 to the scale.
use Rattle.std.specs.Prelude.{ℕ, ℤ, pos, negsuc, min, int_le, Bool, ◌&&◌}
use Rattle.bw_weights.specs.declared.shares.Shares.{Shares}

-- a weight is in range
abbrev pub is_within : ℕ → ℤ → Bool
is_within scale weight = int_le (pos 0) weight && int_le weight (pos scale)

-- the weights of a position are: of a guard, in the middle, of an exit
abbrev pub guard_is_within : ℕ → Shares → Bool
guard_is_within scale shares = is_within scale shares.wgg && is_within scale shares.wgd

abbrev pub middle_is_within : ℕ → Shares → Bool
middle_is_within scale shares =
    is_within scale shares.wmg && is_within scale shares.wme && is_within scale shares.wmd

abbrev pub exit_is_within : ℕ → Shares → Bool
exit_is_within scale shares = is_within scale shares.wee && is_within scale shares.wed

-- all seven are
abbrev pub are_within : ℕ → Shares → Bool
are_within scale shares =
    guard_is_within scale shares && middle_is_within scale shares && exit_is_within scale shares

-- the number of the range that is nearest to a weight
abbrev pub nearest_within : ℕ → ℤ → ℕ
nearest_within scale (pos n) = min n scale
nearest_within scale (negsuc _) = 0
