use Rattle.std.proofs.Common.{◌≡◌, take, replicate}
use Rattle.relay_select.specs.Cursors.{AllAscend}
use Rattle.relay_select.proofs.merge.Merge.new.Given as goal

abbrev pub invariant-votes : goal.invariant-votes
invariant-votes l = record {
  places : l.places.items ≡ replicate l.i 0;
  ascend : AllAscend (take l.i l.votes.votes);
}
