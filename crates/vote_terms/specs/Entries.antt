-- What an entry of a vote says of its relay (dir-spec, "Vote and consensus status document formats").
use Rattle.std.specs.{Prelude.{ℕ, nat_eq, Bool, true, ◌≡◌, List, AllPairs, Option}, List.{find, list_any}}
use Rattle.std.specs.Option.{option_and_then, option_map}
use Rattle.dir_values.specs.{declared.digest.Digest2.Digest2, Digests.identity_below}
use Rattle.relay_entries.specs.declared.said.Bandwidths.{Bandwidths}
use Rattle.vote_terms.specs.declared.entry.{EntryFacts.EntryFacts, MicroFacts.MicroFacts}

-- the first of its further addresses, where it has one
abbrev pub first_address : EntryFacts → Option (List ℕ)
first_address entry = find (λ _. true) entry.addresses

-- what the relay says of its bandwidth, where the entry gives it
abbrev pub bandwidth_of : EntryFacts → Option ℕ
bandwidth_of entry = option_and_then (λ (w : Bandwidths). w.bandwidth) entry.bandwidths

-- what was measured of its bandwidth, where the entry gives it
abbrev pub measured_of : EntryFacts → Option ℕ
measured_of entry = option_and_then (λ (w : Bandwidths). w.measured) entry.bandwidths

-- whether a line gives its digest for a method
abbrev pub gives : ℕ → MicroFacts → Bool
gives method line = list_any (λ other. nat_eq other method) line.methods

-- the digest of the microdescriptor that an entry gives for a method: that of the first such line
abbrev pub micro_for : ℕ → EntryFacts → Option Digest2
micro_for method entry = option_map (λ (line : MicroFacts). line.digest) (find (gives method) entry.micros)

-- entries in strictly ascending order of their identities
abbrev pub Ascending : List EntryFacts → Type 0
Ascending entries = AllPairs (λ (earlier later : EntryFacts). identity_below earlier.identity later.identity ≡ true) entries
