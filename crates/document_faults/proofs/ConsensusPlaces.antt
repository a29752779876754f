-- The places of what is wrong with the items of a consensus, and of the first fault of their document.
use Rattle.std.{proofs.Common.{ℕ, ◌≤◌, Bool, true, false, [], length, Result, Ok, Err}, specs.Prelude.codes}
use Rattle.std.specs.Prelude.{if◌then◌else◌}
use Rattle.std.specs.FinSet as set
use Rattle.item_terms.specs.Items.{Item}
use Rattle.dir_values.specs.{Digests.{digest2, key_digest}, FlagSets.wrong_flag, Numbers.number_of}
use Rattle.list_values.specs.{Params.wrong_param, Protocols.wrong_protocol, VersionLists.wrong_version_list}
use Rattle.value_groups.specs.{ListLines.{params_of, protocols_of, versions_of}, Lines.random_of}
use Rattle.frame_terms.specs.declared.fault.FrameFault.{FrameFault}
use Rattle.frame_terms.specs.declared.fault.FrameReason.TheVariants as reason
use Rattle.frame_values.specs.{Arguments.{Argument, arguments_of, front}, Lines.{delays_of, flags_of, literal}}
use Rattle.frame_values.specs.{Lines.{source_of, time_of}, declared.values.Value.Value}
use Rattle.frame_values.specs.declared.values.Value.TheVariants as value
use Rattle.relay_entries.specs.{Lines.{entry_value, lifted_entry_value}, Listing.{fault_at, is_next, note_entry}}
use Rattle.relay_entries.specs.{Listing.{with_key, with_relay}, declared.listed.Listed.Listed}
use Rattle.relay_entries.specs.declared.said.EntryValue.{EntryValue}
use Rattle.relay_entries.specs.declared.said.EdOpinion.TheVariants as opinion
use Rattle.relay_entries.specs.declared.said.EntryValue.TheVariants as given
use Rattle.consensus_terms.specs.declared.flavour.Flavour.{Flavour}
use Rattle.consensus_frame.specs.Lines.{bandwidth_of, method_of, micro_digest_of, relay_of, version_of, vote_digest_of}
use Rattle.consensus_frame.specs.Tables.{consensus_tables, note_value, signature_of, value_at, with_listed}
use Rattle.consensus_frame.specs.declared.{across.Across.Across, rows.ConsensusKind.ConsensusKind}
use Rattle.consensus_frame.specs.declared.value.ConsensusValue.{ConsensusValue}
use Rattle.consensus_frame.specs.declared.rows.ConsensusKind.TheVariants as kind
use Rattle.consensus_frame.specs.declared.value.ConsensusValue.TheVariants as own
use Rattle.fault_places.{specs.Within.{FaultIn, FaultsStandIn, HasFaultsWithin}, proofs.FirstFaults.first_faults}
use Rattle.fault_places.proofs.ArgumentPlaces.{PlaceIn, flag_in, param_in, protocol_in, versions_in}
use Rattle.fault_places.proofs.ItemPlaces.{IsItemIn, all_begin, delays_in, first_begins, item_in, literal_in, one_in}
use Rattle.fault_places.proofs.{ItemPlaces.{random_in, rest_in, source_in, then_in, time_in}, Placed.last_in}
use Rattle.fault_places.proofs.Placed.{placed_in}
use Rattle.vote_parts.proofs.EntryPlaces.{entry_in}
use Rattle.document_faults.proofs.ConsensusLines.{bandwidth_in, relay_in, signature_in, version_in}

-- ---- what an item says

module _ (n : ℕ) (item : Item) (is : IsItemIn n item) where
  abbrev first : Argument
  first = front item.place (arguments_of item)

  method_in : PlaceIn n (method_of item)
  method_in = last_in n first (number_of first.text) _ (first_begins n item is)

  vote_digest_in : PlaceIn n (vote_digest_of item)
  vote_digest_in = one_in n first (key_digest first.text) (first_begins n item is)

  micro_digest_in : PlaceIn n (micro_digest_of item)
  micro_digest_in = one_in n first (digest2 first.text) (first_begins n item is)

  value_in : (flavour : Flavour) (across : Across) (of_kind : ConsensusKind)
      → PlaceIn n (value_at flavour across of_kind item)
  value_in flavour across kind.Version = then_in n (version_of flavour item) _ (version_in n item is flavour)
  value_in flavour across kind.Status =
      then_in n (literal (codes "consensus") item) _ (literal_in n item is (codes "consensus"))
  value_in flavour across kind.Method = then_in n (method_of item) _ method_in
  value_in flavour across kind.Time = then_in n (time_of item) _ (time_in n item is)
  value_in flavour across kind.Delays =
      then_in n (delays_of item) (λ (delays : ℕ × ℕ). value.Own (own.Delays delays.0 delays.1)) (delays_in n item is)
  value_in flavour across kind.Versions =
      let all = arguments_of item in
      then_in n (versions_of item) _
      (rest_in n item is (wrong_version_list all) (versions_in n all (all_begin n item is)))
  value_in flavour across kind.KnownFlags =
      let all = arguments_of item in
      then_in n (flags_of item) _ (rest_in n item is (wrong_flag [] all) (flag_in n [] all (all_begin n item is)))
  value_in flavour across kind.Protocols =
      let all = arguments_of item in
      then_in n (protocols_of item) _ (rest_in n item is (wrong_protocol all) (protocol_in n all (all_begin n item is)))
  value_in flavour across kind.Params =
      let all = arguments_of item in
      then_in n (params_of item) _ (rest_in n item is (wrong_param all) (param_in n all (all_begin n item is)))
  value_in flavour across kind.Random = then_in n (random_of item) _ (random_in n item is)
  value_in flavour across kind.Source = then_in n (source_of item) _ (source_in n item is)
  value_in flavour across kind.Rest = tt
  value_in flavour across kind.VoteDigest = then_in n (vote_digest_of item) _ vote_digest_in
  value_in flavour across kind.Nothing = tt
  value_in flavour across kind.Signature =
      then_in n (signature_of across.is_signed item) _ (signature_in n item is across.is_signed)
  value_in flavour across kind.Relay = then_in n (relay_of flavour item) _ (relay_in n item is flavour)
  value_in flavour across kind.Bandwidth = then_in n (bandwidth_of item) _ (bandwidth_in n item is)
  value_in flavour across kind.MicroDigest = then_in n (micro_digest_of item) _ micro_digest_in
  value_in flavour across (kind.Entry of_kind) =
      then_in n (entry_value of_kind item) (λ (said : Value EntryValue). lifted_entry_value own.Entry said)
      (entry_in n item is of_kind)

-- ---- what is remembered

module _ (n place : ℕ) (within : place ≤ n) where
  entry_noted : (listed : Listed) (said : EntryValue) → FaultIn n (note_entry listed place said)
  entry_noted listed (given.Relay line) = by (is_next listed.last line.identity)
    where
      by : (t : Bool) → FaultIn n (if t then Ok (with_relay listed line) else Err (fault_at place reason.Unsorted))
      by true = tt
      by false = within
  entry_noted listed (given.Bandwidths widths) = tt
  entry_noted listed (given.Micro line) = tt
  entry_noted listed (given.Ed (opinion.Key key)) = by (set.contains listed.keys key)
    where
      by : (t : Bool) → FaultIn n (if t then Err (fault_at place reason.DuplicateEd) else Ok (with_key listed key))
      by true = within
      by false = tt
  entry_noted listed (given.Ed opinion.None) = tt
  entry_noted listed (given.Ed opinion.Absent) = tt

  listed_in : (across : Across) (noted : Result Listed FrameFault) → FaultIn n noted
      → FaultIn n (with_listed across noted)
  listed_in across (Ok listed) is = tt
  listed_in across (Err fault) is = is

  noted_in : (across : Across) (said : Value ConsensusValue) → FaultIn n (note_value across place said)
  noted_in across value.Nothing = tt
  noted_in across (value.Text text) = tt
  noted_in across (value.Number number) = tt
  noted_in across (value.Fingerprint identity) = tt
  noted_in across (value.Object lines) = tt
  noted_in across (value.Own (own.Delays vote distribution)) = tt
  noted_in across (value.Own (own.Source source)) = tt
  noted_in across (value.Own (own.Random random)) = tt
  noted_in across (value.Own (own.VoteDigest digest)) = tt
  noted_in across (value.Own (own.Bandwidth bandwidth)) = tt
  noted_in across (value.Own (own.MicroDigest digest)) = tt
  noted_in across (value.Own (own.Signature signature)) = tt
  noted_in across (value.Own (own.Entry said)) =
      listed_in across (note_entry across.listed place said) (entry_noted across.listed said)

-- ---- consensuses

consensus_faults_in : (flavour : Flavour) → FaultsStandIn (consensus_tables flavour)
consensus_faults_in flavour = record {
  said = λ bytes across of_kind item there.
      placed_in (length bytes) (value_at flavour across of_kind item)
      (value_in (length bytes) item (item_in bytes item there) flavour across of_kind);
  noted = λ bytes across of_kind keyword item said there e.
      let is = item_in bytes item there in
      noted_in (length bytes) item.place is.place across said;
}

pub consensus_faults : (flavour : Flavour) → HasFaultsWithin (consensus_tables flavour)
consensus_faults flavour = first_faults (consensus_tables flavour) (consensus_faults_in flavour)
