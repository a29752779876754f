use Rattle.std.proofs.Common.{◌≡◌, map, take}
use Rattle.station_input.specs.Facts.{peer_in}
use Rattle.station_input.proofs.facts.peers_of.Given as goal

abbrev pub invariant-loop-member : goal.invariant-loop-member
invariant-loop-member l = l.peers.items ≡ map (peer_in l.bytes) (take l.member-index l.members)
