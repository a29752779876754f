use Rattle.std.proofs.Common.{◌≡◌, ◌++◌, take, drop}
use Rattle.exit_summary.specs.Summaries as summaries
use Rattle.exit_summary.proofs.summaries.fitting.Given as goal

abbrev pub invariant-loop-range : goal.invariant-loop-range
invariant-loop-range l = record {
  taken : take l.range-index l.ranges ++ summaries.ranges_fitting l.room (drop l.range-index l.ranges)
      ≡ summaries.ranges_fitting summaries.most_behind_word l.ranges;
  count : l.count ≡ l.range-index;
}
