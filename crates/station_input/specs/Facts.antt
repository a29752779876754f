-- What a station is given, from the bytes and what was kept of their sections.
use Rattle.std.specs.Prelude.{ℕ, List, map, option_map}
use Rattle.frame_values.specs.Parts.{part}
use Rattle.authority_certs.specs.Certs.{cert_in}
pub use Rattle.authority_certs.specs.Certs.{whole_part}
use Rattle.count_terms.specs.declared.newest.Newest.{Newest}
use Rattle.station_input.specs.declared.{frame_said.MemberLine.MemberLine, facts.{Peer.Peer, StationFacts.StationFacts}}
use Rattle.station_input.specs.declared.kept.Kept.{Kept}
use Rattle.vote_terms.specs.ListLines.{vote_lists}

-- an authority of the network, in these bytes
abbrev pub peer_in : List ℕ → MemberLine → Peer
peer_in bytes member = record { identity = member.identity; address = option_map (part bytes) member.peer }

-- what a station is given of which this was kept, in these bytes, where this is the newest method that is known
abbrev pub facts_of : Newest → List ℕ → Kept → StationFacts
facts_of newest bytes kept = let head = kept.head in record {
  nickname = part bytes head.source.nickname;
  identity = head.source.identity;
  address = part bytes head.source.address;
  ip = head.source.ip;
  dir_port = head.source.dir_port;
  or_port = head.source.or_port;
  contact = option_map (part bytes) head.contact;
  interval = head.schedule.interval;
  vote_seconds = head.schedule.vote;
  dist_seconds = head.schedule.dist;
  authorities = map (peer_in bytes) kept.members;
  lists = vote_lists bytes head.lists;
  rules = kept.rules;
  measured = kept.measured;
  certificate = cert_in bytes head.certificate;
  certificate_bytes = whole_part bytes head.certificate;
  newest = newest;
}
