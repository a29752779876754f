use Rattle.std.{proofs.Common.{◌≡◌, ◌≤◌, take, map}, specs.Prelude.All}
use Rattle.consensus_calc.specs.Timings.{said_timing, most}
use Rattle.consensus_calc.proofs.timing.all_said.Given as goal

abbrev pub invariant-votes : goal.invariant-votes
invariant-votes l = record {
  values : l.values.items ≡ map (said_timing l.timing) (take l.i l.votes.votes);
  within : All (λ value. value ≤ most l.timing) l.values.items;
}
