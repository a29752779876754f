use Rattle.std.proofs.Common.{◌≡◌, ap, sym, ◌∙◌, arith, rules}
use Rattle.vote_terms.specs.declared.entry.EntryFacts.{EntryFacts}
use Rattle.compute_terms.specs.Identities.{belongs}
use Rattle.consensus_calc.proofs.Belonging.{kept_more, members_more, standing}
use Rattle.consensus_calc.proofs.walk.keep_belonging.Goals as goal

pub group-preserved : goal.group-preserved
group-preserved c =
    let s = standing c.args.votes.now.votes _ c.entry_at.result c.entry_at.ensures in
    record {
      listings = kept_more c.args.votes.now.votes c.args.part.now c.args.group.now c.group.at-index _ c.group.members.items c.push_place.new.members.items c.belongs.result s.listing (omega arith) s.stands
          (c.belongs.ensures ∙ ap (belongs c.args.part.now) (c.ed-ed.ensures ∙ ap (λ (e : EntryFacts). e.ed) (sym s.says))) c.group.invariant.listings c.in_ok-push_place.ensures.ok;
      members = members_more c.args.votes.now.votes c.group.members.items c.push_place.new.members.items _ c.belongs.result c.group.invariant.members (rw s.stands (search rules)) c.in_ok-push_place.ensures.ok;
    }
