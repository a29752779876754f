use Rattle.std.proofs.Common.{◌≡◌, ◌≤◌, ◌-◌, None, drop, length}
use Rattle.vote_terms.specs.Entries.{Ascending}
use Rattle.relay_select.specs.Walks.{place_from}
use Rattle.relay_select.proofs.halves.place_of.Given as goal

abbrev pub invariant-halves : goal.invariant-halves
invariant-halves l = record {
  order : l.low ≤ l.high;
  within : l.high ≤ length l.vote.says.entries;
  ascending : Ascending l.vote.says.entries;
  below : place_from l.low (drop l.low l.vote.says.entries) l.identity ≡ place_from 0 l.vote.says.entries l.identity;
  above : place_from l.high (drop l.high l.vote.says.entries) l.identity ≡ None;
}

abbrev pub decreases-halves : goal.decreases-halves
decreases-halves l = l.high - l.low
