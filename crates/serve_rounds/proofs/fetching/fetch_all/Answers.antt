use Rattle.std.{proofs.Common.{sym, subst, take}, specs.Prelude.flat_map}
use Rattle.key_port.specs.Answers as keys
use Rattle.serve_board.specs.Going.{Goes}
use Rattle.serve_rounds.specs.{Duties.IsFetched, Exchanges.IsDue, Keeping.Keeps, Plans.{peers_among, votes_at}}
use Rattle.serve_rounds.{specs.Spans.{Adds, Anywhere}, proofs.{Adding.adds_same, AskedOfPlans.{asks_there, asks_wider}}}
use Rattle.serve_rounds.proofs.{AskedOfPlans.{peer_more, stranger_more, votes_by_peer}, Exchanges.{due_later, due_same}}
use Rattle.serve_rounds.proofs.{Exchanges.due_there, Kept.{keeps_on, link_is, pass_is}}
use Rattle.serve_rounds.proofs.fetching.fetch_all.Goals.{in-Some, in_default}
use Rattle.serve_rounds.proofs.fetching.fetch_all.Goals as goal

pub peers-preserved : goal.peers-preserved
peers-preserved g c =
    let given = c.args.given.now in
    let its = keys.rules g.V.Verifier.may_accept g.V.Verifier.may_refuse in
    let P = Anywhere (IsFetched its given.moment) in
    let board = given.board.now in
    let steps = g.L.Link.steps in
    let own = given.station.now.identity in
    let authorities = given.station.now.authorities in
    let items = c.as_slice-peer-items.result.now in
    let first = c.args.lent.now in
    let before = c.peers.lent in
    let then = c.match-address_of.lent in
    let Kept = Keeps g.V.Verifier.faults g.N.Signer.faults g.L.Link.faults board first in
    let here = (c.peers.invariant.adds first.pass.now (adds_same P first.pass.now)).goes in
    let Due = IsDue its board first.pass.now then.pass.now in
    let plan_of = flat_map (votes_at authorities) in
    let asked = plan_of (peers_among own (take c.peers.peer-index authorities)) in
    record {
      keeps = elim c.match-address_of.branch [
        | in-Some w ↦
            subst Kept (sym w.lent-is)
            (keeps_on g.V.Verifier.faults g.N.Signer.faults g.L.Link.faults board first before w.fetch_from.new.lent
            c.peers.invariant.keeps w.fetch_from.ensures.keeps)
        | in_default w ↦ subst Kept (sym w.lent-is) c.peers.invariant.keeps
      ];
      adds = λ a adds. elim c.match-address_of.branch [
        | in-Some w ↦
            subst (Adds P a) (sym (pass_is w.lent-is)) (w.fetch_from.ensures.adds a (c.peers.invariant.adds a adds))
        | in_default w ↦ subst (Adds P a) (sym (pass_is w.lent-is)) (c.peers.invariant.adds a adds)
      ];
      asks = elim c.match-address_of.branch [
        | in-Some w ↦
            let next = w.fetch_from.new.lent in
            let on = (w.fetch_from.ensures.adds before.pass.now (adds_same P before.pass.now)).goes in
            peer_more steps Due plan_of (votes_by_peer authorities) own authorities c.peers.peer-index
            c.peer-item.result items c.as_slice-peer-items.ensures c.peers-test.true c.peer-item.is first.link.now
            before.link.now then.link.now
            (asks_wider steps (IsDue its board first.pass.now before.pass.now) Due
            (due_later its board first.pass.now before.pass.now then.pass.now
            (subst (Goes before.pass.now) (sym (pass_is w.lent-is)) on)) asked first.link.now before.link.now
            c.peers.invariant.asks)
            _ c.address_of.result w.in-Some.address w.in-Some.is c.address_of.ensures
            (asks_there steps (IsDue its board before.pass.now next.pass.now) Due
            (due_there its board first.pass.now before.pass.now next.pass.now then.pass.now (pass_is w.lent-is) here)
            (votes_at authorities w.in-Some.address.now) before.link.now next.link.now then.link.now
            (link_is w.lent-is) w.fetch_from.ensures.asks)
        | in_default w ↦
            stranger_more steps Due plan_of (votes_by_peer authorities) own authorities c.peers.peer-index
            c.peer-item.result items c.as_slice-peer-items.ensures c.peers-test.true c.peer-item.is first.link.now
            before.link.now then.link.now
            (asks_wider steps (IsDue its board first.pass.now before.pass.now) Due
            (due_same its board first.pass.now before.pass.now then.pass.now (pass_is w.lent-is)) asked
            first.link.now before.link.now c.peers.invariant.asks)
            _ c.address_of.result w.in_default.is c.address_of.ensures (link_is w.lent-is)
      ];
    }
