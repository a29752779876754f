use Rattle.std.proofs.Common.{◌≡◌, arith, sym, ap, ◌∙◌, Some}
use Rattle.vote_terms.specs.declared.entry.EntryFacts.{EntryFacts}
use Rattle.relay_entries.specs.declared.said.EdOpinion.{EdOpinion}
use Rattle.compute_terms.specs.Listings.{Listing, listing_at}
use Rattle.relay_select.proofs.Filters.{part_more, part_of_part}
use Rattle.relay_select.proofs.members.eds_at.Goals as goal

pub members-preserved : goal.members-preserved
members-preserved c = record {
  value =
      part_more (listing_at c.args.votes.now.votes) (λ (l : Listing). l.entry.ed) c.args.members.now c.members.at-index _
      c.members.eds.items c.push_reserved.new.self.items c.ed.result (omega arith) c.members.invariant.value
      (part_of_part (listing_at c.args.votes.now.votes) (λ (l : Listing). l.entry) (λ (e : EntryFacts). e.ed) _
      c.entry_at.result c.entry_at.ensures ∙ ap (λ (ed : EdOpinion). Some ed) (sym c.ed.ensures))
      c.push_reserved.ensures.items;
  len = omega (arith, c.push_reserved.ensures.len, c.members.invariant.len);
  room = omega (arith, c.push_reserved.ensures.capacity, c.members.invariant.room);
}
