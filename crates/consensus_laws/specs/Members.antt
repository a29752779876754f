-- A list has a member at each place that it has, in ascending order (dir-spec, "Computing a consensus from a set of votes").
use Rattle.std.specs.{Prelude.{◌≡◌, ℕ, ◌<◌, List, length, Some}, List.find}
use Rattle.count_terms.specs.Counts.{low_median, member_at, middle, stands_at}

-- A member of the list stands there, and is the one that is taken.
pub record IsMemberAt (place : ℕ) (list : List ℕ) (taken : ℕ) : Type 0 where
  pub member : ℕ
  pub found : find (stands_at place list) list ≡ Some member
  pub is : taken ≡ member

-- So it is at each place that is less than the length, and at the low median of a list that has members.
pub record MembersAreThere : Type 0 where
  pub places : (place : ℕ) (list : List ℕ) → place < length list → IsMemberAt place list (member_at place list)
  pub medians : (list : List ℕ) → 0 < length list → IsMemberAt (middle list) list (low_median list)
