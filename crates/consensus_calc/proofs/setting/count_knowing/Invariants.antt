use Rattle.std.proofs.Common.{◌≡◌, ◌≤◌, ℕ, take, map, slice_index}
use Rattle.compute_terms.specs.RelayFlags.{knowing_count}
use Rattle.consensus_calc.proofs.setting.count_knowing.Given as goal

abbrev pub invariant-votes : goal.invariant-votes
invariant-votes l = record {
  counts : l.counts.items ≡ map (knowing_count (take l.i l.votes.votes)) l.known;
  few : (k : ℕ) → slice_index l.counts.items k ≤ l.i;
}
