use Rattle.std.{proofs.Common.{◌≡◌, ◌++◌, ◌≤◌, map, length, vec_capacity}, specs.{List.filter_map, Prelude.All}}
use Rattle.dir_bytes.specs.Causes.{last_moment}
use Rattle.consensus_terms.specs.declared.router.Routerline.{Routerline}
use Rattle.compute_terms.specs.Routers.{router_of, routers}
use Rattle.relay_select.specs.Walks.{Group, group_of}
use Rattle.consensus_calc.proofs.walk.routers.Given as goal

abbrev pub invariant-relays : goal.invariant-relays
invariant-relays l = record {
  lines : l.lines.items ++ filter_map (router_of l.roster l.method l.fn.limit l.votes.votes) (map (λ (g : Group). g.identity) l.walk.left) ≡ routers l.roster l.method l.fn.limit l.votes.votes;
  groups : l.walk.left ≡ map (group_of l.votes.votes) (map (λ (g : Group). g.identity) l.walk.left);
  moments : All (λ (line : Routerline). line.published ≤ last_moment) l.lines.items;
  votes : l.walk.votes ≡ length l.votes.votes;
  room : length l.votes.votes ≤ vec_capacity l.group;
}

abbrev pub decreases-relays : goal.decreases-relays
decreases-relays l = length l.walk.left
