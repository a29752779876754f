use Rattle.std.proofs.Common.{◌≡◌, take, map}
use Rattle.compute_terms.specs.Listings.{listings_at}
use Rattle.health_report.specs.Lines.{opinion_of}
use Rattle.health_report.proofs.opinions.opinions_at.Given as goal

abbrev pub invariant-members : goal.invariant-members
invariant-members l = l.opinions.items ≡ map opinion_of (listings_at l.votes.votes (take l.at-index l.members))
