-- A low median is one of the numbers, or 0 where there is none.
use Rattle.std.{proofs.Common.{ℕ, ◌≤◌, List, arith}, specs.{Prelude.All, List.find}}
use Rattle.count_terms.specs.Counts.{low_median, member_at, middle, stands_at}
use Rattle.computed_laws.proofs.Kept.{IfSome-find, unwrapped}

-- what holds of 0 and of numbers holds of each that stands among them
member_in : (P : ℕ → Type 0) (place : ℕ) (list : List ℕ) → P 0 → All P list → P (member_at place list)
unfolding member_at
member_in P place list none all =
    unwrapped P (find (stands_at place list) list) 0 (IfSome-find P (stands_at place list) list all) none

-- so the median is at most what they are at most
pub median_within : (most : ℕ) (list : List ℕ) → All (λ (n : ℕ). n ≤ most) list → low_median list ≤ most
median_within most list all = member_in (λ (n : ℕ). n ≤ most) (middle list) list (omega arith) all
