-- A made vote is read as what it was made to say.
use Rattle.std.proofs.{Common.{ℕ, List, ◌++◌, refl, sym, ap, subst}, lemmas.List.Elements.All-weaker}
use Rattle.std.specs.Prelude.{All}
use Rattle.descriptor_laws.specs.ReadRanges.{DescriptorsReadAreInRange, IsDescriptorInRange}
use Rattle.flag_rules.specs.{Flags.flags_of, Relays.ruled_relays, declared.ruling.Ruling.Ruling}
use Rattle.certificate_laws.specs.Given.{IsGiven}
use Rattle.vote_laws.proofs.{BareRows.{IsBare, no_rests}, BareVotes.before_bare, MadeAgain.made_again}
use Rattle.vote_laws.proofs.VoteRows.{preamble_texts}
use Rattle.maker_laws.proofs.{GivenCert.certificates_are_given, GivenLines.given_short, StationKept.station_in_range}
use Rattle.maker_laws.proofs.{EntryRanges.judged_ranged, MadeEntries.entries_rests, MadeFacts.made_ranged}
use Rattle.maker_laws.proofs.{MadeLimits.{HasNone, made_in_range}, ReadDescriptors.descriptor_ranged}
use Rattle.maker_laws.{proofs.{ShortEntries.made_short, ShortPreamble.before_short}, specs.Lines.HasShortLines}
use Rattle.maker_laws.specs.{Ranges.IsStationInRange, Given.{IsBasis, IsDescriptor, StationsReadAreStations}}
use Rattle.maker_laws.specs.ReadAsMade.{MadeAreInRange, MadeVotesReadAsMade, signed_facts}
use Rattle.station_input.specs.declared.facts.StationFacts.{StationFacts}
use Rattle.vote_frame.specs.Tables.{vote_tables}
use Rattle.vote_frame.specs.declared.frame.VoteSection.TheVariants as section
use Rattle.vote_text.specs.{Entries.entries_items, Texts.{authority_items, preamble_items}}
use Rattle.range_laws.proofs.EntryTexts.{entries_bare}
use Rattle.vote_maker.specs.{Listings.judged_relays, Made.{Basis, relays_in}}

-- ---- what was read

station_ranged : (its : Basis) → IsBasis its → IsStationInRange its.station
station_ranged its basis =
    let is = basis.station in
    let read = station_in_range is.newest is.input is.given is.used is.bytes is.read in
    let told : IsStationInRange (record is.given { measured = its.station.measured }) = record {
      nickname = read.nickname;
      identity = read.identity;
      address = read.address;
      ip = read.ip;
      dir_port = read.dir_port;
      or_port = read.or_port;
      contact = read.contact;
      lists = read.lists;
      measured = is.measured;
      certificate = read.certificate;
      keys = read.keys;
    } in
    subst IsStationInRange (sym is.same) told

-- what was read is such
pub stations_read : StationsReadAreStations
stations_read newest input station used bytes read = record {
  input = input;
  bytes = bytes;
  newest = newest;
  given = station;
  used = used;
  read = read;
  same = refl;
  measured = (station_in_range newest input station used bytes read).measured;
}

descriptors_ranged : DescriptorsReadAreInRange → (its : Basis) → IsBasis its → All IsDescriptorInRange its.descriptors
descriptors_ranged law its basis =
    All-weaker IsDescriptor IsDescriptorInRange (descriptor_ranged law) its.descriptors basis.descriptors

-- as descriptors are that are read
pub are_in_range : DescriptorsReadAreInRange → MadeAreInRange
are_in_range law its rulings signature basis signing =
    made_ranged its rulings signature basis signing (station_ranged its basis) (descriptors_ranged law its basis)

-- ---- the law

-- the lines of what a station is given are short
made_lines : (its : Basis) (rulings : List Ruling) (signature : List ℕ) → IsBasis its
    → HasShortLines (signed_facts its rulings signature)
made_lines its rulings signature basis =
    let is = basis.station in
    given_short is.newest is.input is.given is.used (signed_facts its rulings signature) is.read
    (record {
      nickname = ap (λ (station : StationFacts). station.nickname) is.same;
      identity = ap (λ (station : StationFacts). station.identity) is.same;
      address = ap (λ (station : StationFacts). station.address) is.same;
      ip = ap (λ (station : StationFacts). station.ip) is.same;
      dir_port = ap (λ (station : StationFacts). station.dir_port) is.same;
      or_port = ap (λ (station : StationFacts). station.or_port) is.same;
      contact = ap (λ (station : StationFacts). station.contact) is.same;
      lists = ap (λ (station : StationFacts). station.lists) is.same;
    })

-- the bytes of its certificate may stand in a vote
certificate_given : (its : Basis) → IsBasis its
    → IsGiven vote_tables section.Certificate its.station.certificate_bytes its.station.certificate
certificate_given its basis =
    let is = basis.station in
    subst (λ (station : StationFacts).
    IsGiven vote_tables section.Certificate station.certificate_bytes station.certificate)
    (sym is.same) (certificates_are_given is.newest is.input is.given is.used is.read)

pub read_as_made : DescriptorsReadAreInRange → MadeVotesReadAsMade
read_as_made law front its rulings signature rest few basis signing fits =
    let facts = signed_facts its rulings signature in
    let station = station_ranged its basis in
    let descriptors = descriptors_ranged law its basis in
    let may = made_ranged its rulings signature basis signing station descriptors in
    let ruled = ruled_relays (relays_in its) rulings in
    let relays = judged_relays its.descriptors ruled (flags_of its.moment ruled) in
    let judged =
    judged_ranged its.station.measured its.descriptors rulings
    (flags_of its.moment ruled) station.measured descriptors in
    made_again front facts its.station.certificate_bytes rest few (certificate_given its basis)
    (made_in_range facts its.station.certificate_bytes signing.short may fits
    (before_short its rulings signature may.values (made_lines its rulings signature basis))
    (made_short its.station.newest relays judged)
    (All-weaker IsBare HasNone (λ item is. is.none) (preamble_items facts ++ authority_items facts)
    (before_bare facts may.values (no_rests (preamble_texts facts) refl) station.contact))
    (All-weaker IsBare HasNone (λ item is. is.none) (entries_items facts.entries)
    (entries_bare facts.entries may.values.entries.each (entries_rests its.station.newest relays judged))))
