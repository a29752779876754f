use Rattle.std.proofs.Common.{arith}
use Rattle.compute_terms.specs.Listings.{Listing, listing_at}
use Rattle.relay_select.proofs.Filters.{part_more}
use Rattle.relay_select.proofs.members.entries_at.Goals as goal

pub members-preserved : goal.members-preserved
members-preserved c = record {
  value =
      part_more (listing_at c.args.votes.now.votes) (λ (l : Listing). l.entry) c.args.members.now c.members.at-index _
      c.members.entries.items c.push_reserved.new.self.items c.entry_at.result (omega arith) c.members.invariant.value
      c.entry_at.ensures c.push_reserved.ensures.items;
  len = omega (arith, c.push_reserved.ensures.len, c.members.invariant.len);
  room = omega (arith, c.push_reserved.ensures.capacity, c.members.invariant.room);
}
