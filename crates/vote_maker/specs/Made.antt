-- What a vote says that an authority makes (dir-spec, "Vote and consensus status document formats"; "Voting
-- timeline").
use Rattle.std.specs.Prelude.{ℕ, List, [], ◌∷◌, Some, None, codes}
use Rattle.sha1.specs.Sha1.{sha1}
use Rattle.count_terms.specs.declared.newest.Newest.{Newest}
use Rattle.dir_values.specs.declared.algorithm.Algorithm.TheVariants.{Sha1}
use Rattle.authority_certs.specs.declared.cert.Cert.{Cert}
use Rattle.descriptor_doc.specs.declared.descriptor.Descriptor.{Descriptor}
use Rattle.flag_rules.specs.{Flags.flags_of, Relays.ruled_relays, declared.relay.RelayFacts.RelayFacts}
use Rattle.flag_rules.specs.declared.ruling.Ruling.{Ruling}
use Rattle.station_input.specs.declared.{frame_said.MeasuredRelay.MeasuredRelay, facts.StationFacts.StationFacts}
use Rattle.vote_schedule.specs.{Moments.{fresh_until, valid_until}, Schedules.Schedule}
use Rattle.vote_terms.specs.declared.{entry.EntryFacts.EntryFacts, facts.SignatureFacts.SignatureFacts}
use Rattle.vote_terms.specs.declared.facts.VoteFacts.{VoteFacts}
use Rattle.vote_maker.specs.{Entries.made_methods, Listings.{judged_relays, made_entries}, Relays.known_relays}

-- ---- of what a vote is made

-- what the authority is given, the descriptors that it holds, the moment from which the consensus is to be valid, and
-- the moment of the vote
pub record Basis : Type 0 where
  pub station : StationFacts
  pub descriptors : List Descriptor
  pub valid_after : ℕ
  pub moment : ℕ

-- these
abbrev pub basis : StationFacts → List Descriptor → ℕ → ℕ → Basis
basis station descriptors valid_after now =
    record { station = station; descriptors = descriptors; valid_after = valid_after; moment = now }

-- the schedule that a station is given
abbrev pub schedule_in : StationFacts → Schedule
schedule_in station =
    record { interval = station.interval; vote = station.vote_seconds; dist = station.dist_seconds }

-- what is known of its relays
abbrev pub relays_in : Basis → List RelayFacts
relays_in its = known_relays its.station.measured its.descriptors

-- the entries of relays of which this was measured, under these rulings, by the newest method that is known: flags are
-- assigned to all of them, also to those that have no entry
abbrev pub entries_under : Newest → List MeasuredRelay → List Descriptor → ℕ → List Ruling → List EntryFacts
entries_under newest measured descriptors now rulings =
    let ruled = ruled_relays (known_relays measured descriptors) rulings in
    made_entries newest (judged_relays descriptors ruled (flags_of now ruled))

-- ---- what it says

-- the flags that a made vote knows
abbrev pub made_flags : List (List ℕ)
made_flags =
    codes "BadExit" ∷ codes "Exit" ∷ codes "Fast" ∷ codes "Guard" ∷ codes "HSDir" ∷ codes "MiddleOnly"
    ∷ codes "Running" ∷ codes "Stable" ∷ codes "StaleDesc" ∷ codes "Sybil" ∷ codes "V2Dir" ∷ codes "Valid" ∷ []

-- who signs, as the certificate says, with this signature; its algorithm is not named
abbrev pub signature_by : Cert → List ℕ → SignatureFacts
signature_by cert signature = record {
  algorithm = Sha1;
  identity = cert.fingerprint;
  key_digest = record { 0 = sha1 cert.signing_key };
  signature = signature;
}

-- what a vote says with this signature
abbrev pub with_signature : VoteFacts → List ℕ → VoteFacts
with_signature facts signature = record facts { signature = signature_by facts.certificate signature }

-- What the made vote says under these rulings, one for each relay; the signature is no part of it.
abbrev pub made : Basis → List Ruling → VoteFacts
made its rulings = let station = its.station in record {
  methods = Some (made_methods station.newest);
  published = its.moment;
  valid_after = its.valid_after;
  fresh_until = fresh_until (schedule_in station) its.valid_after;
  valid_until = valid_until (schedule_in station) its.valid_after;
  vote_seconds = station.vote_seconds;
  dist_seconds = station.dist_seconds;
  known_flags = made_flags;
  flag_thresholds = None;
  lists = station.lists;
  nickname = station.nickname;
  identity = station.identity;
  address = station.address;
  ip = station.ip;
  dir_port = station.dir_port;
  or_port = station.or_port;
  contact = station.contact;
  random_previous = None;
  random_current = None;
  certificate = station.certificate;
  entries = entries_under station.newest station.measured its.descriptors its.moment rulings;
  signature = signature_by station.certificate [];
}
