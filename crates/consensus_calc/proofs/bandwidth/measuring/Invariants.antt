use Rattle.std.{proofs.Common.{◌≡◌, ◌≤◌, take}, specs.Prelude.count_by}
use Rattle.compute_terms.specs.Bandwidths.{measures}
use Rattle.consensus_calc.proofs.bandwidth.measuring.Given as goal

abbrev pub invariant-votes : goal.invariant-votes
invariant-votes l = record {
  count : l.count ≡ count_by measures (take l.i l.votes.votes);
  within : l.count ≤ l.i;
}
