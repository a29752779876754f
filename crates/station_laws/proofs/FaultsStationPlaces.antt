-- The places of what is wrong with the items of what a station is given, and of the first fault of their document.
use Rattle.std.{proofs.Common.{ℕ, Bool, true, false, length, Result, Ok, Err}, specs.Prelude.{codes, if◌then◌else◌}}
use Rattle.item_terms.specs.Items.{Item}
use Rattle.dir_values.specs.{Digests.fingerprint, Numbers.number_of}
use Rattle.list_values.specs.{Params.wrong_param, Protocols.wrong_protocol, VersionLists.wrong_version_list}
use Rattle.value_groups.specs.ListLines.{params_of, protocols_of, versions_of}
use Rattle.frame_terms.specs.declared.row.Limit.TheVariants as limit
use Rattle.frame_values.specs.{Arguments.{arguments_of, front, next, others}, Lines.{literal, source_of}}
use Rattle.frame_values.specs.declared.{found.DirSource.DirSource, values.Value.Value}
use Rattle.frame_values.specs.declared.values.Value.TheVariants as value
use Rattle.station_input.specs.{Across.note_value, Fields.{Identities, bandwidth, long_number, new_identity, peer}}
use Rattle.station_input.specs.{Fields.ruling_named, Lines.{measured_of, member_of, own_of, rule_of, schedule_of}}
use Rattle.station_input.specs.{Sources.fits_line, Tables.{over_limit, station_tables, value_at}}
use Rattle.station_input.specs.declared.{across.Across.Across, frame.StationKind.StationKind}
use Rattle.station_input.specs.declared.frame_said.StationValue.{StationValue}
use Rattle.station_input.specs.declared.frame.StationKind.TheVariants as kind
use Rattle.station_input.specs.declared.frame_said.StationValue.TheVariants as own
use Rattle.fault_places.{specs.Within.{FaultIn, FaultsStandIn, HasFaultsWithin}, proofs.FirstFaults.first_faults}
use Rattle.fault_places.proofs.ArgumentPlaces.{PlaceIn, others_begin, param_in, protocol_in, versions_in}
use Rattle.fault_places.proofs.ItemPlaces.{IsItemIn, all_begin, front_argument_begins, first_begins, item_in}
use Rattle.fault_places.proofs.ItemPlaces.{literal_in, more_in, rest_in, second_begins, source_in, then_in}
use Rattle.fault_places.proofs.Placed.{last_in, placed_unless}
use Rattle.vote_parts.proofs.VotePlaces.{many_in}
use Rattle.document_faults.proofs.CertificatePlaces.{certificate_in}

module _ (n : ℕ) (item : Item) (is : IsItemIn n item) where
  -- ---- lines

  own_in : PlaceIn n (own_of item)
  own_in = by (source_of item) (source_in n item is)
    where
      fits : (source : DirSource) (t : Bool) → PlaceIn {A = DirSource} n (if t then Ok source else Err item.place)
      fits source true = tt
      fits source false = is.place

      by : (read : Result DirSource ℕ) → PlaceIn n read
          → PlaceIn {A = DirSource} n (next read (λ source.
          if fits_line (front item.place (arguments_of item)).text
          (front item.place (others (others (arguments_of item)))).text source then Ok source else Err item.place))
      by (Err place) within = within
      by (Ok source) within =
          fits source (fits_line (front item.place (arguments_of item)).text
          (front item.place (others (others (arguments_of item)))).text source)

  schedule_in : PlaceIn n (schedule_of item)
  schedule_in =
      let l0 = arguments_of item in
      let l1 = others l0 in
      let l2 = others l1 in
      let e1 = others_begin n l0 (all_begin n item is) in
      let e2 = others_begin n l1 e1 in
      let a = front item.place l0 in
      let b = front item.place l1 in
      let c = front item.place l2 in
      more_in n a (long_number a.text) _ (first_begins n item is) (λ interval.
      more_in n b (long_number b.text) _ (front_argument_begins n item is l1 e1) (λ vote.
      last_in n c (long_number c.text) _ (front_argument_begins n item is l2 e2)))

  member_in : PlaceIn n (member_of item)
  member_in =
      let a = front item.place (arguments_of item) in
      let b = front item.place (others (arguments_of item)) in
      more_in n a (fingerprint a.text) _ (first_begins n item is) (λ identity.
      last_in n b (peer b) _ (second_begins n item is))

  rule_in : (earlier : Identities) → PlaceIn n (rule_of earlier item)
  rule_in earlier =
      let a = front item.place (arguments_of item) in
      let b = front item.place (others (arguments_of item)) in
      more_in n a (ruling_named a.text) _ (first_begins n item is) (λ ruled.
      last_in n b (new_identity earlier b.text) _ (second_begins n item is))

  measured_in : (earlier : Identities) → PlaceIn n (measured_of earlier item)
  measured_in earlier =
      let l0 = arguments_of item in
      let l1 = others l0 in
      let l2 = others l1 in
      let l3 = others l2 in
      let l4 = others l3 in
      let l5 = others l4 in
      let e1 = others_begin n l0 (all_begin n item is) in
      let e2 = others_begin n l1 e1 in
      let e3 = others_begin n l2 e2 in
      let e4 = others_begin n l3 e3 in
      let e5 = others_begin n l4 e4 in
      let a = front item.place l0 in
      let b = front item.place l1 in
      let c = front item.place l2 in
      let d = front item.place l3 in
      let e = front item.place l4 in
      let f = front item.place l5 in
      more_in n a (new_identity earlier a.text) _ (first_begins n item is) (λ identity.
      more_in n b (long_number b.text) _ (front_argument_begins n item is l1 e1) (λ reached_at.
      more_in n c (long_number c.text) _ (front_argument_begins n item is l2 e2) (λ wmtbf.
      more_in n d (number_of d.text) _ (front_argument_begins n item is l3 e3) (λ wfu_ppm.
      more_in n e (long_number e.text) _ (front_argument_begins n item is l4 e4) (λ known_for.
      last_in n f (bandwidth f.text) _ (front_argument_begins n item is l5 e5))))))

  -- ---- what an item says

  value_in : (across : Across) (of_kind : StationKind) → PlaceIn n (value_at across of_kind item)
  value_in across kind.Version = then_in n (literal (codes "1") item) _ (literal_in n item is (codes "1"))
  value_in across kind.Source = then_in n (own_of item) _ own_in
  value_in across kind.Rest = tt
  value_in across kind.Schedule = then_in n (schedule_of item) _ schedule_in
  value_in across kind.Member = then_in n (member_of item) _ member_in
  value_in across kind.Versions =
      let all = arguments_of item in
      then_in n (versions_of item) _
      (rest_in n item is (wrong_version_list all) (versions_in n all (all_begin n item is)))
  value_in across kind.Protocols =
      let all = arguments_of item in
      then_in n (protocols_of item) _ (rest_in n item is (wrong_protocol all) (protocol_in n all (all_begin n item is)))
  value_in across kind.Params =
      let all = arguments_of item in
      then_in n (params_of item) _ (rest_in n item is (wrong_param all) (param_in n all (all_begin n item is)))
  value_in across kind.Rule = then_in n (rule_of across.ruled item) _ (rule_in across.ruled)
  value_in across kind.Measured = then_in n (measured_of across.measured item) _ (measured_in across.measured)
  value_in across kind.Nothing = tt
  value_in across (kind.Certificate of_kind) = certificate_in StationValue n item is of_kind

  over_in : (of_kind : StationKind) → FaultIn n (over_limit of_kind item)
  over_in kind.Version = tt
  over_in kind.Source = tt
  over_in kind.Rest = tt
  over_in kind.Schedule = tt
  over_in kind.Member = tt
  over_in kind.Versions = tt
  over_in kind.Protocols = tt
  over_in kind.Params = many_in n item is limit.Params
  over_in kind.Rule = tt
  over_in kind.Measured = tt
  over_in kind.Nothing = tt
  over_in (kind.Certificate of_kind) = tt

-- all that is remembered may stand
noted_in : (n : ℕ) (across : Across) (said : Value StationValue) → FaultIn n (note_value across said)
noted_in n across value.Nothing = tt
noted_in n across (value.Text text) = tt
noted_in n across (value.Number number) = tt
noted_in n across (value.Fingerprint identity) = tt
noted_in n across (value.Object lines) = tt
noted_in n across (value.Own (own.Source source)) = tt
noted_in n across (value.Own (own.Schedule schedule)) = tt
noted_in n across (value.Own (own.Member member)) = tt
noted_in n across (value.Own (own.Rule rule)) = tt
noted_in n across (value.Own (own.Measured relay)) = tt

station_faults_in : FaultsStandIn station_tables
station_faults_in = record {
  said = λ bytes across of_kind item there.
      let is = item_in bytes item there in
      placed_unless (length bytes) (over_limit of_kind item) (value_at across of_kind item)
      (over_in (length bytes) item is of_kind) (value_in (length bytes) item is across of_kind);
  noted = λ bytes across of_kind keyword item said there e. noted_in (length bytes) across said;
}

pub station_faults : HasFaultsWithin station_tables
station_faults = first_faults station_tables station_faults_in
