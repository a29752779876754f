use Rattle.std.{proofs.Common.{◌≡◌, ◌++◌, ◌≤◌, map, length, vec_capacity}, specs.List.flat_map}
use Rattle.compute_terms.specs.Listings.{identities_in}
use Rattle.relay_select.specs.Walks.{Group, group_of}
use Rattle.health_report.specs.Reports.{lines_of}
use Rattle.health_report.proofs.relays.push_voted.Given as goal

abbrev pub invariant-relays : goal.invariant-relays
invariant-relays l = record {
  lines : l.out.items ++ flat_map (lines_of l.listed l.votes.votes) (map (λ (g : Group). g.identity) l.walk.left)
      ≡ l.fn.out.items ++ flat_map (lines_of l.listed l.votes.votes) (identities_in l.votes.votes);
  groups : l.walk.left ≡ map (group_of l.votes.votes) (map (λ (g : Group). g.identity) l.walk.left);
  votes : l.walk.votes ≡ length l.votes.votes;
  room : length l.votes.votes ≤ vec_capacity l.group;
}

abbrev pub decreases-relays : goal.decreases-relays
decreases-relays l = length l.walk.left
