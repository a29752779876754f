-- The bandwidth of classes of relays (dir-spec, "Computing Bandwidth Weights").
use Rattle.std.specs.Prelude.{ℕ, ◌+◌, ◌*◌, ◌≤◌, ◌^◌, min, max, nat_lt, Bool}
use Rattle.bw_weights.specs.declared.sums.Sums.{Sums}

-- a class's bandwidth: it counts from 1, and is at most 2^54
pub record IsBandwidth (n : ℕ) : Type 0 where
  pub least : 1 ≤ n
  pub most : n ≤ 2 ^ 54

-- each class's is one
pub record AreInRange (sums : Sums) : Type 0 where
  pub guards : IsBandwidth sums.g
  pub middles : IsBandwidth sums.m
  pub exits : IsBandwidth sums.e
  pub both : IsBandwidth sums.d

-- T, the bandwidth of all classes
abbrev pub total_of : Sums → ℕ
total_of sums = sums.g + sums.m + sums.e + sums.d

-- a class is scarce that has less than a third of it
abbrev pub is_scarce : ℕ → Sums → Bool
is_scarce class sums = nat_lt (3 * class) (total_of sums)

-- the scarcer of guards and exits has, with all that are both, less than the other
abbrev pub are_unequal : Sums → Bool
are_unequal sums = nat_lt (min sums.g sums.e + sums.d) (max sums.g sums.e)
