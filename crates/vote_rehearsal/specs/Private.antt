-- What private functions of this crate say.
use Rattle.std.specs.{Prelude.{◌≡◌, Bool, not, ◌&&◌, List, Ok}, Cmp.Lexicographic.slice_cmp, Ordering.nat_cmp}
use Rattle.std.specs.FinSet as set
use Rattle.dir_values.specs.Rosters.{roster_of}
use Rattle.vote_rehearsal.specs.{Authorities.members_of, declared.{authority.Authority.Authority, relay.Relay.Relay}}

-- a set of identities or of keys, by their bytes
abbrev pub Known : Type 0
Known = set.FinSet (slice_cmp nat_cmp)

-- whether a relay has neither an RSA identity nor an Ed25519 identity key that is known
abbrev pub is_new : Known → Known → Relay → Bool
is_new identities keys relay =
    not (set.contains identities relay.identity.0) && not (set.contains keys relay.ed)

-- the fingerprints of authorities are a roster
abbrev pub MakeRoster : List Authority → Type 0
MakeRoster authorities = roster_of (members_of authorities) ≡ Ok (members_of authorities)
