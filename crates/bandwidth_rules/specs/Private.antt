-- What the private functions of this crate say.
use Rattle.std.specs.Prelude.{ℕ, ◌+◌, ◌*◌, ◌≤◌, Bool, if◌then◌else◌}
use Rattle.bw_weights.specs.declared.sums.Sums.{Sums}
use Rattle.bandwidth_rules.specs.declared.class.Class.{Class, TheVariants.{Guard, Middle, Exit, Both}}
use Rattle.bandwidth_rules.specs.Classes.{is_class}

-- a sum, with this bandwidth if it is its own
abbrev pub sum_with : Bool → ℕ → ℕ → ℕ
sum_with own bandwidth sum = if own then sum + bandwidth else sum

-- the sums with the bandwidth of one more relay of a class
abbrev pub with_bandwidth : Class → ℕ → Sums → Sums
with_bandwidth class bandwidth sums = record {
  g = sum_with (is_class Guard class) bandwidth sums.g;
  m = sum_with (is_class Middle class) bandwidth sums.m;
  e = sum_with (is_class Exit class) bandwidth sums.e;
  d = sum_with (is_class Both class) bandwidth sums.d;
}

-- the greatest bandwidth of a relay, in kilobytes per second
abbrev pub most_bandwidth : ℕ
most_bandwidth = 4294967295

-- a sum is at least 1, and at most that of so many bandwidths
abbrev pub IsSumOf : ℕ → ℕ → Type 0
IsSumOf count sum = (1 ≤ sum) × (sum ≤ 1 + count * most_bandwidth)

-- each sum is one of at most so many bandwidths
pub record AreSumsOf (count : ℕ) (sums : Sums) : Type 0 where
  pub guards : IsSumOf count sums.g
  pub middles : IsSumOf count sums.m
  pub exits : IsSumOf count sums.e
  pub both : IsSumOf count sums.d
