-- The authorities of a rehearsal.
use Rattle.std.specs.{Prelude.{ℕ, Bool, List, [], ◌∷◌, ◌++◌, map, codes, if◌then◌else◌}, List.{fold, list_any}}
use Rattle.std.specs.List.{range_with_len}
use Rattle.sha1.specs.Sha1.{sha1}
use Rattle.dir_values.specs.{Digests.same_identity, declared.digest.Fingerprint.Fingerprint}
use Rattle.vote_rehearsal.specs.{Relays.seeded_word, declared.authority.Authority.Authority}

-- the authority with a number
abbrev pub authority_of : ℕ → ℕ → Authority
authority_of seed number = record {
  number = number;
  identity = record { 0 = sha1 (seeded_word (codes "authority-") number seed) };
  identity_key = seeded_word (codes "authority-") number seed;
  signing_key = seeded_word (codes "signing-") number seed;
}

-- whether one of the authorities has a fingerprint
abbrev pub has_identity : List Authority → Fingerprint → Bool
has_identity authorities identity =
    list_any (λ (other : Authority). same_identity other.identity identity) authorities

-- authorities with one more, unless one of them has its fingerprint
abbrev pub with_voter : List Authority → Authority → List Authority
with_voter voters authority =
    if has_identity voters authority.identity then voters else voters ++ authority ∷ []

-- the authorities that vote, of so many, by their numbers from 1: of those with one fingerprint the first
unfoldable pub voters : ℕ → ℕ → List Authority
voters seed count = fold with_voter [] (map (authority_of seed) (range_with_len 1 count))

-- their fingerprints
abbrev pub members_of : List Authority → List Fingerprint
members_of authorities = map (λ (one : Authority). one.identity) authorities
