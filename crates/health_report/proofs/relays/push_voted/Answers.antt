use Rattle.std.{proofs.Common.{◌≡◌, ◌++◌, ◌∙◌, ap, sym, subst, List, map, arith}, specs.List.flat_map}
use Rattle.dir_values.specs.declared.digest.Fingerprint.{Fingerprint}
use Rattle.compute_terms.specs.Listings.{AreMembers, identities_in, listings_at}
use Rattle.relay_select.{specs.Walks.{Walk, Group, group_of, groups}, proofs.Steps.{step, identities_back}}
use Rattle.health_report.{specs.Reports.lines_of, proofs.{Loops.text_more, RelayWords.relays_done}}
use Rattle.health_report.proofs.relays.push_voted.Goals as goal

pub relays-init : goal.relays-init
relays-init c =
    let votes = c.args.votes.now.votes in
    let left : c.in_ok-walk.walk.left ≡ groups votes = ap (λ (w : Walk). w.left) c.in_ok-walk.ensures in
    let ids : map (λ (g : Group). g.identity) c.in_ok-walk.walk.left ≡ identities_in votes =
    ap (λ (gs : List Group). map (λ (g : Group). g.identity) gs) left ∙ identities_back votes (identities_in votes) in
    record {
      lines = ap (λ (l : List Fingerprint). c.args.out.now.items ++ flat_map (lines_of c.args.listed.now votes) l) ids;
      groups = left ∙ sym (ap (map (group_of votes)) ids);
      votes = ap (λ (w : Walk). w.votes) c.in_ok-walk.ensures;
      room = omega (arith, c.in_ok-group.ensures.exact, c.len.ensures);
    }

pub push_group-requires : goal.push_group-requires
push_group-requires c =
    let votes = c.args.votes.now.votes in
    let s = step votes c.relays.walk.left c.next.new.self.left c.in-Some.rsa c.next.new.group.items
    c.in-Some.ensures.gives.0 c.relays.invariant.groups in
    record {
      members = subst (AreMembers votes) (sym c.deref.ensures.value) s.members_are;
      listings = ap (listings_at votes) c.deref.ensures.value ∙ s.listings_are;
    }

pub relays-preserved : goal.relays-preserved
relays-preserved c =
    let votes = c.args.votes.now.votes in
    let s = step votes c.relays.walk.left c.next.new.self.left c.in-Some.rsa c.next.new.group.items
    c.in-Some.ensures.gives.0 c.relays.invariant.groups in
    record {
      lines = text_more (lines_of c.args.listed.now votes) c.relays.out.items c.push_group.new.out.items c.in-Some.rsa
          (map (λ (g : Group). g.identity) c.next.new.self.left) (map (λ (g : Group). g.identity) c.relays.walk.left) _
          s.identities c.in_ok-push_group.ensures c.relays.invariant.lines;
      groups = s.groups;
      votes = c.in-Some.ensures.gives.1 ∙ c.relays.invariant.votes;
      room = omega (arith, c.in-Some.ensures.capacity, c.relays.invariant.room);
    }

pub returns : goal.returns
returns c =
    relays_done c.args.listed.now c.args.votes.now.votes c.relays.walk.left c.relays.out.items c.args.out.now.items
    c.in_default.ensures.gives.0 c.relays.invariant.lines
