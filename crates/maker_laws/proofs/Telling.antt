-- What was measured of the relay of each entry.
use Rattle.std.proofs.{Common.{◌≡◌, ℕ, List, [], ◌∷◌, All, refl, ap, ◌∙◌}, lemmas.List.Elements.{All-nil, All-cons}}
use Rattle.std.proofs.lemmas.List.Elements.{All-filter, All-map, All-weaker}
use Rattle.count_terms.specs.declared.newest.Newest.{Newest}
use Rattle.dir_values.specs.declared.digest.Fingerprint.{Fingerprint}
use Rattle.descriptor_doc.specs.declared.descriptor.Descriptor.{Descriptor}
use Rattle.flag_rules.specs.{Flags.flags_of, Relays.ruled_relays, declared.{flags.Flags.Flags, relay.Measured.Measured}}
use Rattle.flag_rules.specs.declared.{relay.RelayFacts.RelayFacts, ruling.Ruling.Ruling}
use Rattle.station_input.specs.declared.frame_said.MeasuredRelay.{MeasuredRelay}
use Rattle.vote_maker.specs.Listings.{JudgedRelay, entry_of_judged, has_entry, judged_relays, listed_relays}
use Rattle.vote_maker.specs.Relays.{known_of, known_relays}
use Rattle.station_commands.specs.MeasuredTold.{AreToldBy}
use Rattle.maker_laws.specs.Votes.{EntriesAreTold, IsToldBy}

-- what is known of a relay is what its descriptor says and what was measured
abbrev IsKnownBy : List MeasuredRelay → JudgedRelay → Type 0
IsKnownBy measured one = one.ruled.facts ≡ known_of measured one.descriptor

known : (measured : List MeasuredRelay) (ds : List Descriptor) (rs : List Ruling) (fs : List Flags)
    → All (IsKnownBy measured) (judged_relays ds (ruled_relays (known_relays measured ds) rs) fs)
known measured [] rs fs = All-nil (IsKnownBy measured)
known measured (d ∷ ds) [] fs = All-nil (IsKnownBy measured)
known measured (d ∷ ds) (r ∷ rs) [] = All-nil (IsKnownBy measured)
known measured (d ∷ ds) (r ∷ rs) (f ∷ fs) =
    All-cons (IsKnownBy measured)
    (record { descriptor = d; ruled = record { facts = known_of measured d; ruling = r }; flags = f })
    (judged_relays ds (ruled_relays (known_relays measured ds) rs) fs) refl (known measured ds rs fs)

-- the entry of a relay tells what was measured of it
tells : (newest : Newest) (file : List (Fingerprint × ℕ)) (before after : List MeasuredRelay) → AreToldBy file before after
    → (one : JudgedRelay) → IsKnownBy after one → IsToldBy file (entry_of_judged newest one)
tells newest file before after told one is =
    ap (λ (facts : RelayFacts). facts.measured.kb) is
    ∙ ap (λ (measured : Measured). measured.kb) (told one.descriptor.identity)

pub entries_told : EntriesAreTold
entries_told file before its rulings told =
    let after = its.station.measured in
    let newest = its.station.newest in
    let ruled = ruled_relays (known_relays after its.descriptors) rulings in
    let all = judged_relays its.descriptors ruled (flags_of its.moment ruled) in
    All-map (IsToldBy file) (entry_of_judged newest) (listed_relays all)
    (All-weaker (IsKnownBy after) (λ (one : JudgedRelay). IsToldBy file (entry_of_judged newest one))
    (tells newest file before after told) (listed_relays all)
    (All-filter (has_entry all) (IsKnownBy after) all
    (known after its.descriptors rulings (flags_of its.moment ruled))))
