-- What items of a consensus alone say, in its sections. Where an item is not there, its value is nothing.
use Rattle.std.specs.Prelude.{ℕ, Option, Some, None}
use Rattle.dir_values.specs.declared.digest.{Digest1.Digest1, Digest2.Digest2}
use Rattle.frame_terms.specs.declared.document.Taken.{Taken}
use Rattle.frame_values.specs.{declared.{found.DirSource.DirSource, values.Value.Value}, Values.{own_in, nowhere}}
use Rattle.frame_values.specs.Values.{no_digest, no_identity}
use Rattle.relay_entries.specs.declared.said.{EntryValue.TheVariants.Relay, RelayLine.RelayLine}
use Rattle.value_groups.specs.declared.value.SharedRandom.{SharedRandom}
use Rattle.consensus_terms.specs.declared.router.Bandwidth.{Bandwidth}
use Rattle.consensus_frame.specs.declared.value.ConsensusValue.{ConsensusValue}
use Rattle.consensus_frame.specs.declared.value.ConsensusValue.TheVariants as own

-- the two numbers of seconds that a value is, and 0 of another kind
abbrev pub delays_of_value : Option ConsensusValue → ℕ × ℕ
delays_of_value (Some (own.Delays vote dist)) = (vote, dist)
delays_of_value _ = (0, 0)

-- the seconds for exchanging votes, and those for exchanging signatures
abbrev pub delays_in : Option (Taken (Value ConsensusValue)) → ℕ × ℕ
delays_in item = delays_of_value (own_in item)

-- the shared random value that a value is
abbrev pub random_of_value : Option ConsensusValue → Option SharedRandom
random_of_value (Some (own.Random random)) = Some random
random_of_value _ = None

-- the shared random value that an item has
abbrev pub random_in : Option (Taken (Value ConsensusValue)) → Option SharedRandom
random_in item = random_of_value (own_in item)

-- an authority of which nothing is known
abbrev pub no_source : DirSource
no_source = record {
  nickname = nowhere;
  identity = no_identity;
  address = nowhere;
  ip = 0;
  dir_port = 0;
  or_port = 0;
}

-- the authority that a value speaks of
abbrev pub source_of_value : Option ConsensusValue → DirSource
source_of_value (Some (own.Source source)) = source
source_of_value _ = no_source

-- the authority that an item speaks of
abbrev pub source_in : Option (Taken (Value ConsensusValue)) → DirSource
source_in item = source_of_value (own_in item)

-- the digest of a vote that a value is
abbrev pub vote_digest_of_value : Option ConsensusValue → Digest1
vote_digest_of_value (Some (own.VoteDigest digest)) = digest
vote_digest_of_value _ = record { 0 = no_digest }

-- the digest of a vote that an item says
abbrev pub vote_digest_in : Option (Taken (Value ConsensusValue)) → Digest1
vote_digest_in item = vote_digest_of_value (own_in item)

-- a relay of which nothing is known
abbrev pub no_relay : RelayLine
no_relay = record {
  nickname = nowhere;
  identity = no_identity;
  digest = record { 0 = no_digest };
  published = 0;
  ip = 0;
  or_port = 0;
  dir_port = 0;
}

-- the relay that a value speaks of
abbrev pub relay_of_value : Option ConsensusValue → RelayLine
relay_of_value (Some (own.Entry (Relay relay))) = relay
relay_of_value _ = no_relay

-- the relay that an item speaks of
abbrev pub relay_in : Option (Taken (Value ConsensusValue)) → RelayLine
relay_in item = relay_of_value (own_in item)

-- the bandwidth that a value is, if it is one
abbrev pub bandwidth_of_value : Option ConsensusValue → Option Bandwidth
bandwidth_of_value (Some (own.Bandwidth bandwidth)) = Some bandwidth
bandwidth_of_value _ = None

-- the bandwidth that an item says
abbrev pub bandwidth_in : Option (Taken (Value ConsensusValue)) → Option Bandwidth
bandwidth_in item = bandwidth_of_value (own_in item)

-- the digest of a microdescriptor that a value is, if it is one
abbrev pub micro_digest_of_value : Option ConsensusValue → Option Digest2
micro_digest_of_value (Some (own.MicroDigest digest)) = Some digest
micro_digest_of_value _ = None

-- the digest of a microdescriptor that an item says
abbrev pub micro_digest_in : Option (Taken (Value ConsensusValue)) → Option Digest2
micro_digest_in item = micro_digest_of_value (own_in item)
