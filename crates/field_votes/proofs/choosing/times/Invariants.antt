use Rattle.std.proofs.Common.{◌≡◌, ◌≤◌, take}
use Rattle.count_terms.specs.Choosing as choosing
use Rattle.field_votes.proofs.choosing.times.Given as goal

abbrev pub invariant-values : goal.invariant-values
invariant-values g l = record {
  count : l.count ≡ choosing.times g.T.Ballot.order (take l.other-index l.values) l.value;
  within : l.count ≤ l.other-index;
}
