-- Where weights stand in a line from method 34 on (dir-spec, "Computing Bandwidth Weights"): C tor leaves them out where it takes
-- the row without exits in the middle, and these do not hold.
use Rattle.std.specs.Prelude.{ℕ, ◌+◌, ◌*◌, ◌/◌, nat_le, Bool, not, ◌&&◌, ◌||◌, Option, Some, None, if◌then◌else◌}
use Rattle.bw_weights.specs.Cases as cases
use Rattle.bw_weights.specs.{Cases.shares_at, Ranges.are_within, Sums.{are_unequal, is_scarce, total_of}}
use Rattle.bw_weights.specs.{Weights.{shares_of, weights_of}, declared.sums.Sums.Sums}
use Rattle.bw_weights.specs.declared.position_weights.Weights.{Weights}

-- whether the row without exits in the middle is taken: guards and exits are scarce and comparable, and with exits there one of
-- the weights would be out of range
abbrev pub is_without_exits : Sums → ℕ → Bool
is_without_exits sums scale =
    is_scarce sums.g sums && is_scarce sums.e sums && not (are_unequal sums)
    && not (are_within scale (shares_at cases.comparable_with_exits sums scale))

-- the weighted bandwidth in a guard's position, and in an exit's
abbrev pub guard_sum : Sums → Weights → ℕ
guard_sum sums weights = weights.wgg * sums.g + weights.wgd * sums.d

abbrev pub exit_sum : Sums → Weights → ℕ
exit_sum sums weights = weights.wee * sums.e + weights.wed * sums.d

-- whether they differ by at most ten thirds of T, which is not scaled
abbrev pub is_balanced : Sums → Weights → Bool
is_balanced sums weights =
    nat_le (guard_sum sums weights) (exit_sum sums weights + 10 * total_of sums / 3)
    && nat_le (exit_sum sums weights) (guard_sum sums weights + 10 * total_of sums / 3)

-- whether the weights stand in a line: those of that row where none is out of range and they balance guards and exits
abbrev pub have_line : Sums → ℕ → Bool
have_line sums scale =
    not (is_without_exits sums scale) || (are_within scale (shares_of sums scale) && is_balanced sums (weights_of sums scale))

-- the weights that do
abbrev pub stated_weights : Sums → ℕ → Option Weights
stated_weights sums scale = if have_line sums scale then Some (weights_of sums scale) else None
