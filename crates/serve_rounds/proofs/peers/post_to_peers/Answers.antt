use Rattle.std.proofs.Common.{ap, arith}
use Rattle.serve_rounds.{specs.Exchanges.Whatever, proofs.AskedOfPlans.{asks_bring, each_by_peer, peer_more}}
use Rattle.serve_rounds.proofs.{AskedOfPlans.stranger_more, peers.post_to_peers.Goals.{in-Some, in_default}}
use Rattle.serve_rounds.proofs.peers.post_to_peers.Goals as goal

pub peers-preserved : goal.peers-preserved
peers-preserved g c =
    let authorities = c.args.station.now.authorities in
    let items = c.as_slice-peer-items.result.now in
    record {
      asked = λ asking request limit.
          let before = c.peers.invariant.asked asking request limit in
          elim c.match-address_of.branch [
            | in-Some w ↦ peer_more g.L.Link.steps Whatever _ (each_by_peer asking) c.args.station.now.identity
                authorities
                c.peers.peer-index c.peer-item.result items c.as_slice-peer-items.ensures c.peers-test.true
                c.peer-item.is c.args.link.now c.peers.link
                c.match-address_of.link before _ c.address_of.result w.in-Some.address w.in-Some.is
                c.address_of.ensures
                (asks_bring g.L.Link.steps w.in-Some.address.now asking c.args.path.now c.args.body.now _ _ _ request
                limit w.link-is w.bring.ensures.asks)
            | in_default w ↦ stranger_more g.L.Link.steps Whatever _ (each_by_peer asking) c.args.station.now.identity
                authorities c.peers.peer-index c.peer-item.result items c.as_slice-peer-items.ensures
                c.peers-test.true c.peer-item.is c.args.link.now
                c.peers.link c.match-address_of.link before _ c.address_of.result w.in_default.is c.address_of.ensures
                w.link-is
          ];
      faults = elim c.match-address_of.branch [
        | in-Some w ↦ omega (arith, ap g.L.Link.faults w.link-is, w.bring.ensures.faults, c.peers.invariant.faults)
        | in_default w ↦ omega (arith, ap g.L.Link.faults w.link-is, c.peers.invariant.faults)
      ];
    }
