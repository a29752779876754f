use Rattle.std.proofs.Common.{sym, subst}
use Rattle.key_port.specs.Answers as keys
use Rattle.serve_rounds.specs.{Duties.IsGathered, Exchanges.Whatever, Keeping.Keeps, Plans.GetSignatures, Spans.Adds}
use Rattle.serve_rounds.{specs.Spans.Anywhere, proofs.AskedOfPlans.{asks_gather, each_by_peer, peer_more}}
use Rattle.serve_rounds.proofs.{AskedOfPlans.stranger_more, Kept.{keeps_on, link_is, pass_is}}
use Rattle.serve_rounds.proofs.gathering.gather_all.Goals.{in-Some, in_default}
use Rattle.serve_rounds.proofs.gathering.gather_all.Goals as goal

pub peers-preserved : goal.peers-preserved
peers-preserved g c =
    let given = c.args.given.now in
    let P = Anywhere (IsGathered (keys.rules g.V.Verifier.may_accept g.V.Verifier.may_refuse)) in
    let board = given.board.now in
    let steps = g.L.Link.steps in
    let own = given.station.now.identity in
    let authorities = given.station.now.authorities in
    let items = c.as_slice-peer-items.result.now in
    let first = c.args.lent.now in
    let before = c.peers.lent in
    let then = c.match-address_of.lent in
    let Kept = Keeps g.V.Verifier.faults g.N.Signer.faults g.L.Link.faults board first in
    record {
      keeps = elim c.match-address_of.branch [
        | in-Some w ↦
            subst Kept (sym w.lent-is)
            (keeps_on g.V.Verifier.faults g.N.Signer.faults g.L.Link.faults board first before w.gather_from.new.lent
            c.peers.invariant.keeps w.gather_from.ensures.keeps)
        | in_default w ↦ subst Kept (sym w.lent-is) c.peers.invariant.keeps
      ];
      adds = λ a adds. elim c.match-address_of.branch [
        | in-Some w ↦
            subst (Adds P a) (sym (pass_is w.lent-is)) (w.gather_from.ensures.adds a (c.peers.invariant.adds a adds))
        | in_default w ↦ subst (Adds P a) (sym (pass_is w.lent-is)) (c.peers.invariant.adds a adds)
      ];
      asks = elim c.match-address_of.branch [
        | in-Some w ↦
            peer_more steps Whatever _ (each_by_peer GetSignatures) own authorities c.peers.peer-index
            c.peer-item.result items c.as_slice-peer-items.ensures c.peers-test.true c.peer-item.is first.link.now
            before.link.now then.link.now c.peers.invariant.asks
            _ c.address_of.result w.in-Some.address w.in-Some.is c.address_of.ensures
            (asks_gather steps w.in-Some.address.now before.link.now _ then.link.now (link_is w.lent-is)
            w.gather_from.ensures.asks)
        | in_default w ↦
            stranger_more steps Whatever _ (each_by_peer GetSignatures) own authorities c.peers.peer-index
            c.peer-item.result items c.as_slice-peer-items.ensures c.peers-test.true c.peer-item.is first.link.now
            before.link.now then.link.now c.peers.invariant.asks
            _ c.address_of.result w.in_default.is c.address_of.ensures (link_is w.lent-is)
      ];
    }
