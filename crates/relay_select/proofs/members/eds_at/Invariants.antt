use Rattle.std.proofs.Common.{◌≡◌, ◌≤◌, take, length, vec_len, vec_capacity}
use Rattle.compute_terms.specs.{Listings.listings_at, Identities.eds_of}
use Rattle.relay_select.proofs.members.eds_at.Given as goal

abbrev pub invariant-members : goal.invariant-members
invariant-members l = record {
  value : l.eds.items ≡ eds_of (listings_at l.votes.votes (take l.at-index l.members));
  len : vec_len l.eds ≡ l.at-index;
  room : length l.members ≤ vec_capacity l.eds;
}
