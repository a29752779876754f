-- Which relays have an entry in a vote that an authority makes.
use Rattle.std.specs.{Prelude.{Bool, false, not, ◌&&◌, List, [], ◌∷◌, map, filter, Option, Some}, List.list_any}
use Rattle.std.specs.Str.{bytes_eq}
use Rattle.count_terms.specs.declared.newest.Newest.{Newest}
use Rattle.dir_values.specs.Digests.{identity_below}
use Rattle.descriptor_frame.specs.declared.certificate.EdCert.{EdCert}
use Rattle.descriptor_doc.specs.declared.descriptor.Descriptor.{Descriptor}
use Rattle.flag_rules.specs.{Rulings.is_reject, declared.{flags.Flags.Flags, relay.RuledRelay.RuledRelay}}
use Rattle.vote_terms.specs.declared.entry.EntryFacts.{EntryFacts}
use Rattle.vote_maker.specs.Entries.{made_entry}

-- a relay: its descriptor, what is known and what is ruled of it, and its flags
pub record JudgedRelay : Type 0 where
  pub descriptor : Descriptor
  pub ruled : RuledRelay
  pub flags : Flags

-- relays, each with what is known and ruled of it and with its flags
abbrev pub judged_relays : List Descriptor → List RuledRelay → List Flags → List JudgedRelay
judged_relays [] ruled flags = []
judged_relays (one ∷ descriptors) [] flags = []
judged_relays (one ∷ descriptors) (relay ∷ ruled) [] = []
judged_relays (one ∷ descriptors) (relay ∷ ruled) (its ∷ flags) =
    record { descriptor = one; ruled = relay; flags = its } ∷ judged_relays descriptors ruled flags

-- whether two relays have one Ed25519 identity key
abbrev pub same_key : Option EdCert → Option EdCert → Bool
same_key (Some one) (Some other) = bytes_eq one.signer other.signer
same_key _ _ = false

-- whether a relay is not rejected and has the Ed25519 identity key of another
abbrev pub takes_key : JudgedRelay → JudgedRelay → Bool
takes_key other one =
    not (is_reject other.ruled.ruling)
    && same_key other.descriptor.identity_ed25519 one.descriptor.identity_ed25519

-- whether it takes the place of that one: it has the smaller identity besides
abbrev pub goes_before : JudgedRelay → JudgedRelay → Bool
goes_before other one = identity_below other.descriptor.identity one.descriptor.identity && takes_key other one

-- whether a relay among others has an entry: it is not rejected, and none of the others takes its place
abbrev pub has_entry : List JudgedRelay → JudgedRelay → Bool
has_entry relays one =
    not (is_reject one.ruled.ruling) && not (list_any (λ (other : JudgedRelay). goes_before other one) relays)

-- the relays that have an entry, in their order
abbrev pub listed_relays : List JudgedRelay → List JudgedRelay
listed_relays relays = filter (has_entry relays) relays

-- the entry of a relay, by the newest method that is known
abbrev pub entry_of_judged : Newest → JudgedRelay → EntryFacts
entry_of_judged newest one = made_entry newest one.descriptor one.ruled.facts one.flags

-- the entries of relays
abbrev pub made_entries : Newest → List JudgedRelay → List EntryFacts
made_entries newest relays = map (entry_of_judged newest) (listed_relays relays)
