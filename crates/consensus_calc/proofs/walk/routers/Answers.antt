use Rattle.std.proofs.Common.{◌≡◌, ◌≤◌, ◌∙◌, ap, sym, subst, List, Option, ℕ, map, arith}
use Rattle.std.{proofs.lemmas.List.Elements.All-nil, specs.List.filter_map}
use Rattle.dir_bytes.specs.Causes.{last_moment}
use Rattle.consensus_terms.specs.declared.router.Routerline.{Routerline}
use Rattle.compute_terms.specs.{Routers.{router_of, router_from}, Bandwidths.cap_of, Listings.{Listing, AreMembers}}
use Rattle.compute_terms.specs.Listings.{listings_at, identities_in}
use Rattle.relay_select.{specs.Walks.{Walk, Group, group_of, groups}, proofs.Steps.{step, gives_more, identities_back}}
use Rattle.consensus_calc.proofs.Picks.{all_more}
use Rattle.consensus_calc.proofs.walk.routers.Goals as goal

pub relays-init : goal.relays-init
relays-init c =
    let votes = c.args.votes.now.votes in
    let left : c.in_ok-walk.walk.left ≡ groups votes = ap (λ (w : Walk). w.left) c.in_ok-walk.ensures in
    let ids : map (λ (g : Group). g.identity) c.in_ok-walk.walk.left ≡ identities_in votes =
    ap (λ (gs : List Group). map (λ (g : Group). g.identity) gs) left ∙ identities_back votes (identities_in votes) in
    record {
      lines = rw c.new-lines.ensures.items (ap (filter_map (router_of c.args.roster c.args.method c.args.limit votes)) ids);
      groups = left ∙ sym (ap (map (group_of votes)) ids);
      moments = rw c.new-lines.ensures.items (All-nil (λ (line : Routerline). line.published ≤ last_moment));
      votes = ap (λ (w : Walk). w.votes) c.in_ok-walk.ensures;
      room = omega (arith, c.in_ok-group.ensures.exact, c.len.ensures);
    }

pub router-requires-clause-members : goal.router-requires-clause-members
router-requires-clause-members c =
    let votes = c.args.votes.now.votes in
    let s = step votes c.relays.walk.left c.next.new.self.left c.in-Some.identity c.next.new.group.items c.in-Some.ensures.gives.0 c.relays.invariant.groups in
    subst (AreMembers votes) (sym c.deref-in-Some-3.ensures.value) s.members_are

pub relays-preserved : goal.relays-preserved
relays-preserved c =
    let votes = c.args.votes.now.votes in
    let roster = c.args.roster in
    let method = c.args.method in
    let rsa = c.in-Some.identity in
    let s = step votes c.relays.walk.left c.next.new.self.left rsa c.next.new.group.items c.in-Some.ensures.gives.0 c.relays.invariant.groups in
    let line : c.in_ok-line.line ≡ router_of roster method c.args.limit votes rsa =
    c.in_ok-line.ensures.value
    ∙ ap (λ (m : Option ℕ). router_from roster method m votes rsa (listings_at votes c.deref-in-Some-3.result.now)) c.cap_of-most.ensures
    ∙ ap (λ (ls : List Listing). router_from roster method (cap_of c.args.limit votes) votes rsa ls) (ap (listings_at votes) c.deref-in-Some-3.ensures.value ∙ s.listings_are) in
    record {
      lines = gives_more (router_of roster method c.args.limit votes) c.relays.lines.items c.push_if.new.lines.items c.in_ok-line.line rsa (map (λ (g : Group). g.identity) c.next.new.self.left) (map (λ (g : Group). g.identity) c.relays.walk.left) _ s.identities line c.in_ok-push_if.ensures.ok c.relays.invariant.lines;
      groups = s.groups;
      moments = all_more (λ (line : Routerline). line.published ≤ last_moment) c.relays.lines.items c.push_if.new.lines.items c.in_ok-line.line c.relays.invariant.moments c.in_ok-line.ensures.moment c.in_ok-push_if.ensures.ok;
      votes = c.in-Some.ensures.gives.1 ∙ c.relays.invariant.votes;
      room = omega (arith, c.in-Some.ensures.capacity, c.relays.invariant.room);
    }
