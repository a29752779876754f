-- The tuple of a relay: its descriptor, its name and where it is reached (dir-spec, "Computing a consensus from a set
-- of votes").
use Rattle.std.specs.{Prelude.{ℕ, List, map, Option}, declared.cmp.Ordering.Ordering, Ordering.{nat_cmp, ordering_then}}
use Rattle.dir_values.specs.declared.digest.Digest1.{Digest1}
use Rattle.vote_terms.specs.declared.entry.EntryFacts.{EntryFacts}
use Rattle.count_terms.specs.Choosing.{chosen, text_order}

-- what votes choose together: the digest of a relay's descriptor and when it was published, the nickname, the
-- address, the ports
pub record Tuple : Type 0 where
  pub digest : Digest1
  pub published : ℕ
  pub nickname : List ℕ
  pub ip : ℕ
  pub or_port : ℕ
  pub dir_port : ℕ

-- the tuple of an entry
abbrev pub tuple_of : EntryFacts → Tuple
tuple_of e = record {
  digest = e.digest;
  published = e.published;
  nickname = e.nickname;
  ip = e.ip;
  or_port = e.or_port;
  dir_port = e.dir_port;
}

-- the order of addresses, and then of ports
abbrev pub address_order : Tuple → Tuple → Ordering
address_order a b =
    ordering_then (ordering_then (nat_cmp a.ip b.ip) (nat_cmp a.or_port b.or_port)) (nat_cmp a.dir_port b.dir_port)

-- The greater of two tuples is that of the later descriptor; then that of the smaller digest, nickname, address, onion
-- routing port, directory port.
abbrev pub tuple_order : Tuple → Tuple → Ordering
tuple_order a b =
    ordering_then
    (ordering_then (ordering_then (nat_cmp a.published b.published) (text_order b.digest.0 a.digest.0)) (text_order b.nickname a.nickname))
    (address_order b a)

-- the tuple that stands most often among entries, and of those that stand as often the greatest
abbrev pub chosen_tuple : List EntryFacts → Option Tuple
chosen_tuple entries = chosen tuple_order (map tuple_of entries)
