-- The first fault of a descriptor, and of what a station is given, stands within its bytes.
use Rattle.std.proofs.Common.{◌≡◌, ℕ, ◌+◌, ◌-◌, ◌≤◌, List, length, drop, Result, Ok, Err, refl, ap, ◌∙◌, arith}
use Rattle.std.proofs.lemmas.List.{length-drop}
use Rattle.item_terms.specs.Items.{items_of}
use Rattle.frame_terms.specs.{declared.fault.ReadRefusal.{ReadRefusal, TheVariants.{Frame, Memory}}, Documents.Document}
use Rattle.frame_terms.specs.Documents.{document_of, finish}
use Rattle.frame_values.specs.declared.values.Value.{Value}
use Rattle.descriptor_doc.specs.Reading.{front_of, max_descriptor, own_kept, with_descriptor}
use Rattle.descriptor_doc.specs.declared.{descriptor.Descriptor.Descriptor, kept.Kept.Kept}
use Rattle.descriptor_doc.proofs.{Fronts.front_within, KeptDescriptors.kept_within}
use Rattle.station_input.specs.{Tables.station_tables, declared.frame.StationSection.StationSection}
use Rattle.station_input.specs.{declared.frame_said.StationValue.StationValue, Reading.{max_station, with_facts}}
use Rattle.station_input.specs.Kept as station_kept
use Rattle.station_laws.specs.Within.{DescriptorFaultsStandWithin, StationFaultsStandWithin}
use Rattle.station_laws.proofs.FaultsStationPlaces.{station_faults}

abbrev refused : {A : Type 0} → ReadRefusal → Result A ReadRefusal
refused refusal = Err refusal

abbrev place_or : Result (Descriptor × ℕ) ReadRefusal → ℕ
place_or (Err (Frame fault)) = fault.place
place_or _ = 0

pub descriptor_within : DescriptorFaultsStandWithin
descriptor_within bytes fault is = by (own_kept (max_descriptor - front_of bytes) rest) refl is
  where
    rest : List ℕ
    rest = drop (front_of bytes) bytes

    by : (read : Result (Kept × ℕ) ReadRefusal) → own_kept (max_descriptor - front_of bytes) rest ≡ read
        → with_descriptor (front_of bytes) rest read ≡ Err (Frame fault) → fault.place ≤ length bytes
    by (Ok kept) there e = absurd (cc e)
    by (Err (Frame found)) there e =
        let place : front_of bytes + found.place ≡ fault.place = ap place_or e in
        let within = kept_within (max_descriptor - front_of bytes) rest found there in
        omega (arith, place, within, length-drop (front_of bytes) bytes, (front_within bytes).0)
    by (Err Memory) there e = absurd (cc e)

pub station_within : StationFaultsStandWithin
station_within newest bytes fault is =
    by (document_of station_tables (length bytes) (items_of max_station bytes)) refl is
  where
    by : (read : Result (Document StationSection (Value StationValue)) ReadRefusal)
        → document_of station_tables (length bytes) (items_of max_station bytes) ≡ read
        → with_facts newest bytes (finish station_kept.kept_with station_kept.none_kept read) ≡ Err (Frame fault)
        → fault.place ≤ length bytes
    by (Ok document) there e = absurd (cc e)
    by (Err refusal) there e =
        let same : refusal ≡ Frame fault = cc e in
        station_faults max_station bytes fault (there ∙ ap refused same)
