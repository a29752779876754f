use Rattle.std.{proofs.Common.{◌≡◌, ◌≤◌, drop}, specs.Prelude.filter}
use Rattle.list_values.specs.{Masks.is_set, NumberSets.{numbers_from, ranges_of}}
use Rattle.list_values.proofs.runs.runs_of.Given as goal

abbrev pub invariant-numbers : goal.invariant-numbers
invariant-numbers l = record {
  value : drop l.runs.start l.runs.ranges ≡ ranges_of (filter (is_set l.mask) (numbers_from l.left));
  left : l.left ≤ 64;
  room : l.left ≤ l.runs.start;
  within : l.runs.start ≤ 64;
}

abbrev pub decreases-numbers : goal.decreases-numbers
decreases-numbers l = l.left
