use Rattle.std.proofs.Common.{◌≡◌, take}
use Rattle.compute_terms.specs.{Listings.{AreMembers, listings_at}, Routers.belonging_listings}
use Rattle.consensus_calc.proofs.walk.keep_belonging.Given as goal

abbrev pub invariant-group : goal.invariant-group
invariant-group l = record {
  listings : listings_at l.votes.votes l.members.items ≡ belonging_listings l.part (listings_at l.votes.votes (take l.at-index l.group));
  members : AreMembers l.votes.votes l.members.items;
}
