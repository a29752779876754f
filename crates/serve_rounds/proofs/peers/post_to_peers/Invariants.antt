use Rattle.std.proofs.Common.{◌≡◌, ◌≤◌, take}
use Rattle.dir_http.specs.Responses.{post_text}
use Rattle.serve_rounds.specs.{Exchanges.{AsksSome, Whatever}, Plans.{Asking, limit_of, peers_among, request_of}}
use Rattle.serve_rounds.specs.Plans.{to_each}
use Rattle.serve_rounds.proofs.peers.post_to_peers.Given as goal

abbrev pub invariant-peers : goal.invariant-peers
invariant-peers g l = record {
  asked : (asking : Asking) → request_of asking ≡ post_text l.path l.body → limit_of asking ≡ 65536
      → AsksSome g.L.Link.steps Whatever (to_each (peers_among l.station.identity (take l.peer-index
      l.station.authorities)) asking)
      l.fn.link l.link;
  faults : g.L.Link.faults l.fn.link ≤ g.L.Link.faults l.link;
}
