use Rattle.std.proofs.Common.{◌≡◌, ◌++◌, take, drop, length}
use Rattle.consensus_calc.specs.Counting.{added_counts}
use Rattle.consensus_calc.proofs.counting.add.Given as goal

abbrev pub invariant-counts : goal.invariant-counts
invariant-counts l = record {
  counts : take l.i l.counts.items ++ added_counts (drop l.i l.first) (drop l.i l.second) (drop l.i l.counts.items) ≡ added_counts l.first l.second l.fn.counts.items;
  long : length l.counts.items ≡ length l.fn.counts.items;
  behind : drop l.i l.counts.items ≡ drop l.i l.fn.counts.items;
}
