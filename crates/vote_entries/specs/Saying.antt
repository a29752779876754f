-- What the items of an entry of a vote say. Where an item is not there, or says something else, its value is nothing.
use Rattle.std.specs.Prelude.{List, [], ◌∷◌, Option, Some, None, if◌then◌else◌}
use Rattle.dir_values.specs.declared.digest.Digest2.{Digest2}
use Rattle.frame_terms.specs.{declared.{document.Taken.Taken, keyword.Keyword.TheVariants.A}, Keywords.same}
use Rattle.frame_values.specs.{declared.{found.Span.Span, values.Value.Value}, Values.{no_digest, nowhere, own_in}}
use Rattle.frame_values.specs.Values.{text_of_value}
use Rattle.frame_values.specs.declared.values.Value.TheVariants as value
use Rattle.relay_entries.specs.declared.said.{Bandwidths.Bandwidths as BandwidthsSaid, EdOpinion.EdOpinion}
use Rattle.relay_entries.specs.declared.said.EntryValue.TheVariants.{Relay, Bandwidths, Micro, Ed}
use Rattle.relay_entries.specs.declared.said.RelayLine.{RelayLine}
use Rattle.relay_entries.specs.declared.said.EdOpinion.TheVariants as opinion
use Rattle.vote_frame.specs.declared.frame.VoteValue.{VoteValue, TheVariants.Entry}
use Rattle.vote_entries.specs.declared.row.KeptMicro.{KeptMicro}

-- a relay of which nothing is known
abbrev pub no_relay : RelayLine
no_relay = record {
  nickname = nowhere;
  identity = record { 0 = no_digest };
  digest = record { 0 = no_digest };
  published = 0;
  ip = 0;
  or_port = 0;
  dir_port = 0;
}

-- the relay that a value speaks of
abbrev pub relay_of_value : Option VoteValue → RelayLine
relay_of_value (Some (Entry (Relay relay))) = relay
relay_of_value _ = no_relay

-- the relay that an item speaks of
abbrev pub relay_in : Option (Taken (Value VoteValue)) → RelayLine
relay_in item = relay_of_value (own_in item)

-- the bandwidths that a value is, if it is some
abbrev pub bandwidths_of_value : Option VoteValue → Option BandwidthsSaid
bandwidths_of_value (Some (Entry (Bandwidths said))) = Some said
bandwidths_of_value _ = None

-- the bandwidths that an item says, where there is one
abbrev pub bandwidths_in : Option (Taken (Value VoteValue)) → Option BandwidthsSaid
bandwidths_in item = bandwidths_of_value (own_in item)

-- what a value says of an Ed25519 identity
abbrev pub ed_of_value : Option VoteValue → EdOpinion
ed_of_value (Some (Entry (Ed said))) = said
ed_of_value _ = opinion.Absent

-- what an item says of an Ed25519 identity
abbrev pub ed_in : Option (Taken (Value VoteValue)) → EdOpinion
ed_in item = ed_of_value (own_in item)

-- ---- items that may stand several times

-- one in front of a list, where there is one
abbrev pub onto_if : {X : Type 0} → Option X → List X → List X
onto_if None list = list
onto_if (Some x) list = x ∷ list

-- where the text of an item stands, if it is an `a` line
abbrev pub address_if : Taken (Value VoteValue) → Option Span
address_if one = if same one.keyword A then text_of_value one.value else None

-- where the texts of all `a` lines stand
abbrev pub addresses_in : List (Taken (Value VoteValue)) → List Span
addresses_in [] = []
addresses_in (one ∷ taken) = onto_if (address_if one) (addresses_in taken)

-- what is kept of an `m` line with these methods, if it gives a digest: one of other algorithms alone has no say
abbrev pub micro_with : Span → Option Digest2 → Option KeptMicro
micro_with methods None = None
micro_with methods (Some digest) = Some (record { methods = methods; digest = digest })

-- what is kept of a value, if it is such a line
abbrev pub micro_if : Value VoteValue → Option KeptMicro
micro_if (value.Own (Entry (Micro line))) = micro_with line.methods line.digest
micro_if _ = None

-- what is kept of all such items
abbrev pub micros_in : List (Taken (Value VoteValue)) → List KeptMicro
micros_in [] = []
micros_in (one ∷ taken) = onto_if (micro_if one.value) (micros_in taken)
