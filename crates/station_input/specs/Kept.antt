-- What is kept of a station input.
use Rattle.std.specs.Prelude.{List, [], ◌++◌}
use Rattle.frame_terms.specs.declared.document.Taken.{Taken}
use Rattle.frame_values.specs.declared.values.Value.{Value}
use Rattle.station_input.specs.declared.frame.StationSection.{StationSection, TheVariants.{Station, Certificate}}
use Rattle.station_input.specs.{declared.{frame_said.StationValue.StationValue, kept.Kept.Kept}, Heads.no_head}
use Rattle.station_input.specs.{Heads.{with_certificate, with_station}, Saying.{measured_in, members_in, rules_in}}

-- what is kept where nothing was read
abbrev pub none_kept : Kept
none_kept = record { head = no_head; members = []; rules = []; measured = [] }

-- what is kept after one more section
abbrev pub kept_with : Kept → StationSection → List (Taken (Value StationValue)) → Kept
kept_with kept Certificate taken = record kept { head = with_certificate kept.head taken }
kept_with kept Station taken = record {
  head = with_station kept.head taken;
  members = kept.members ++ members_in taken;
  rules = kept.rules ++ rules_in taken;
  measured = kept.measured ++ measured_in taken;
}
