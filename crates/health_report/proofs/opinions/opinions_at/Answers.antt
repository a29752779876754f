use Rattle.std.proofs.Common.{arith}
use Rattle.compute_terms.specs.Listings.{listing_at}
use Rattle.relay_select.proofs.Filters.{part_more}
use Rattle.health_report.specs.Lines.{opinion_of}
use Rattle.health_report.proofs.opinions.opinions_at.Goals as goal

pub members-preserved : goal.members-preserved
members-preserved c =
    part_more (listing_at c.args.votes.now.votes) opinion_of c.args.members.now c.members.at-index _
    c.members.opinions.items c.push.new.self.items c.in_ok-opinion.opinion (omega arith) c.members.invariant
    c.in_ok-opinion.ensures c.in_ok-push.ensures.items
