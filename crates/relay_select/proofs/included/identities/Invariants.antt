use Rattle.std.{proofs.Common.{◌≡◌, ◌++◌, ◌≤◌, map, length, vec_capacity}, specs.List.filter_map}
use Rattle.compute_terms.specs.Identities.{included_identity, included_identities}
use Rattle.relay_select.specs.Walks.{Group, group_of}
use Rattle.relay_select.proofs.included.identities.Given as goal

abbrev pub invariant-relays : goal.invariant-relays
invariant-relays l = record {
  identities : l.identities.items ++ filter_map (included_identity l.roster l.votes.votes) (map (λ (g : Group). g.identity) l.walk.left) ≡ included_identities l.roster l.votes.votes;
  groups : l.walk.left ≡ map (group_of l.votes.votes) (map (λ (g : Group). g.identity) l.walk.left);
  votes : l.walk.votes ≡ length l.votes.votes;
  room : length l.votes.votes ≤ vec_capacity l.group;
}

abbrev pub decreases-relays : goal.decreases-relays
decreases-relays l = length l.walk.left
