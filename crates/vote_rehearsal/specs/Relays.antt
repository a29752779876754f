-- The relays of a rehearsal.
use Rattle.std.specs.Prelude.{ℕ, ◌+◌, ◌*◌, Bool, not, ◌||◌, List, [], ◌∷◌, ◌++◌, map, filter, codes, decimal}
use Rattle.std.specs.{List.{fold, list_any, range_with_len}, BTreeMap.insert_entry, Cmp.Lexicographic.slice_cmp}
use Rattle.std.specs.{Ordering.nat_cmp, Str.bytes_eq}
use Rattle.sha1.specs.Sha1.{sha1}
use Rattle.sha2.specs.Sha256.{sha256}
use Rattle.item_terms.specs.Bytes.{hyphen}
use Rattle.dir_values.specs.Digests.{same_identity}
use Rattle.vote_rehearsal.specs.{Draws.number_after, declared.relay.Relay.Relay}

-- ---- names

-- a word and a number
abbrev pub numbered_word : List ℕ → ℕ → List ℕ
numbered_word word number = word ++ decimal number

-- a word, a number and the seed
abbrev pub seeded_word : List ℕ → ℕ → ℕ → List ℕ
seeded_word word number seed = numbered_word word number ++ hyphen ∷ decimal seed

-- ---- one relay

-- the number behind which the draws of a relay stand: behind those of each relay before it, one of its own and one of
-- each authority
abbrev pub start_of : ℕ → ℕ → ℕ → ℕ
start_of seed authorities number = number_after seed (number * (authorities + 1))

-- the relay with a number, whose draws stand behind this one
abbrev pub relay_at : ℕ → ℕ → ℕ → Relay
relay_at seed number start = record {
  number = number;
  start = start;
  identity = record { 0 = sha1 (seeded_word (codes "relay-") number seed) };
  digest = record { 0 = sha1 (seeded_word (codes "desc-") number seed) };
  ed = sha256 (seeded_word (codes "ed-") number seed);
  micro = record { 0 = sha256 (seeded_word (codes "micro-") number seed) };
}

-- the relay with a number
abbrev pub relay_of : ℕ → ℕ → ℕ → Relay
relay_of seed authorities number = relay_at seed number (start_of seed authorities number)

-- ---- those that votes list

-- the relays with smaller numbers than this
abbrev pub relays_below : ℕ → ℕ → ℕ → List Relay
relays_below seed authorities count = map (relay_of seed authorities) (range_with_len 0 count)

-- whether two relays have one RSA identity or one Ed25519 identity key
abbrev pub share_identity : Relay → Relay → Bool
share_identity relay other = same_identity other.identity relay.identity || bytes_eq other.ed relay.ed

-- whether a relay has an identity of one with a smaller number
abbrev pub is_repeated : ℕ → ℕ → Relay → Bool
is_repeated seed authorities relay = list_any (share_identity relay) (relays_below seed authorities relay.number)

-- the relays that votes list, of so many: those that have no identity of one with a smaller number
abbrev pub listed_relays : ℕ → ℕ → ℕ → List Relay
listed_relays seed authorities count =
    filter (λ relay. not (is_repeated seed authorities relay)) (relays_below seed authorities count)

-- relays by their identities, and one more
abbrev pub with_relay : List (List ℕ × Relay) → Relay → List (List ℕ × Relay)
with_relay relays relay = insert_entry (slice_cmp nat_cmp) relays relay.identity.0 relay

-- relays by their identities, which ascend
abbrev pub by_identity : List Relay → List (List ℕ × Relay)
by_identity relays = fold with_relay [] relays

-- the relays that votes list, ascending by identity
unfoldable pub ascending_relays : ℕ → ℕ → ℕ → List Relay
ascending_relays seed authorities count =
    map (λ entry. entry.1) (by_identity (listed_relays seed authorities count))
