use Rattle.std.proofs.Common.{◌≡◌, ◌≤◌, take}
use Rattle.compute_terms.specs.Randoms.{votes_for}
use Rattle.consensus_calc.proofs.randoms.votes_for.Given as goal

abbrev pub invariant-votes : goal.invariant-votes
invariant-votes l = record {
  count : l.count ≡ votes_for l.line (take l.i l.votes.votes) l.random;
  within : l.count ≤ l.i;
}
