use Rattle.std.{proofs.Common.{◌≡◌, ◌∙◌, ap, sym, subst, List, Option, map, arith}, specs.Prelude.option_map}
use Rattle.std.specs.List.{filter_map}
use Rattle.relay_entries.specs.declared.said.EdOpinion.{EdOpinion}
use Rattle.compute_terms.specs.{declared.{belong.Belong.Belong, identity.EdPart.EdPart}, Identities.included_identity}
use Rattle.compute_terms.specs.{Identities.{included_part, eds_of}, Listings.{Listing, AreMembers, listings_at}}
use Rattle.compute_terms.specs.Listings.{listings, identities_in}
use Rattle.relay_select.{specs.Walks.{Walk, Group, group_of, groups}, proofs.Steps.{step, gives_more, identities_back}}
use Rattle.relay_select.proofs.included.identities.Goals as goal

pub relays-init : goal.relays-init
relays-init c =
    let votes = c.args.votes.now.votes in
    let left : c.in_ok-walk.walk.left ≡ groups votes = ap (λ (w : Walk). w.left) c.in_ok-walk.ensures in
    let ids : map (λ (g : Group). g.identity) c.in_ok-walk.walk.left ≡ identities_in votes =
    ap (λ (gs : List Group). map (λ (g : Group). g.identity) gs) left ∙ identities_back votes (identities_in votes) in
    record {
      identities = rw c.new-identities.ensures.items (ap (filter_map (included_identity c.args.roster votes)) ids);
      groups = left ∙ sym (ap (map (group_of votes)) ids);
      votes = ap (λ (w : Walk). w.votes) c.in_ok-walk.ensures;
      room = omega (arith, c.in_ok-group.ensures.exact, c.len.ensures);
    }

pub eds_at-requires : goal.eds_at-requires
eds_at-requires c =
    let votes = c.args.votes.now.votes in
    let s = step votes c.relays.walk.left c.next.new.self.left c.in-Some.rsa c.next.new.group.items c.in-Some.ensures.gives.0 c.relays.invariant.groups in
    subst (AreMembers votes) (sym c.deref.ensures.value) s.members_are

pub relays-preserved : goal.relays-preserved
relays-preserved c =
    let votes = c.args.votes.now.votes in
    let roster = c.args.roster in
    let rsa = c.in-Some.rsa in
    let s = step votes c.relays.walk.left c.next.new.self.left rsa c.next.new.group.items c.in-Some.ensures.gives.0 c.relays.invariant.groups in
    let part : c.included_part-part.result ≡ included_part roster (eds_of (listings votes rsa)) =
    c.included_part-part.ensures
    ∙ ap (λ (eds : List EdOpinion). included_part roster eds) (c.deref-in-Some.ensures.value ∙ c.in_ok-eds_at.ensures.ok ∙ ap (λ (ms : List Belong). eds_of (listings_at votes ms)) c.deref.ensures.value ∙ ap (λ (ls : List Listing). eds_of ls) s.listings_are) in
    let given : option_map (λ (ed : EdPart). record { rsa = rsa; ed = ed }) c.included_part-part.result ≡ included_identity roster votes rsa = ap (λ (o : Option EdPart). option_map (λ (ed : EdPart). record { rsa = rsa; ed = ed }) o) part in
    record {
      identities = gives_more (included_identity roster votes) c.relays.identities.items c.push_if.new.identities.items (option_map (λ (ed : EdPart). record { rsa = rsa; ed = ed }) c.included_part-part.result) rsa (map (λ (g : Group). g.identity) c.next.new.self.left) (map (λ (g : Group). g.identity) c.relays.walk.left) _ s.identities given c.in_ok-push_if.ensures.ok c.relays.invariant.identities;
      groups = s.groups;
      votes = c.in-Some.ensures.gives.1 ∙ c.relays.invariant.votes;
      room = omega (arith, c.in-Some.ensures.capacity, c.relays.invariant.room);
    }
