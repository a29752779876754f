use Rattle.std.proofs.Common.{◌≡◌, ◌≤◌, take, length, vec_len, vec_capacity}
use Rattle.compute_terms.specs.Listings.{entries_of, listings_at}
use Rattle.relay_select.proofs.members.entries_at.Given as goal

abbrev pub invariant-members : goal.invariant-members
invariant-members l = record {
  value : l.entries.items ≡ entries_of (listings_at l.votes.votes (take l.at-index l.members));
  len : vec_len l.entries ≡ l.at-index;
  room : length l.members ≤ vec_capacity l.entries;
}
