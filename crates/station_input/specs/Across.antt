-- What is remembered across the items of a station input: of which relays its rules speak, and of which its measurements.
-- Each kind of line speaks of a relay once.
use Rattle.std.specs.Prelude.{Result, Ok}
use Rattle.std.specs.FinSet as set
use Rattle.frame_terms.specs.declared.fault.FrameFault.{FrameFault}
use Rattle.frame_values.specs.declared.values.Value.{Value}
use Rattle.frame_values.specs.declared.values.Value.TheVariants as value
use Rattle.station_input.specs.declared.{across.Across.Across, frame_said.StationValue.{StationValue, TheVariants.Rule}}
use Rattle.station_input.specs.declared.frame_said.StationValue.TheVariants.{Measured}

-- nothing yet
abbrev pub nothing_across : Across
nothing_across = record { ruled = set.empty; measured = set.empty }

-- what is remembered with what an item says; all of it may stand
abbrev pub note_value : Across → Value StationValue → Result Across FrameFault
note_value across (value.Own (Rule rule)) =
    Ok (record { ruled = set.insert across.ruled rule.identity.0; measured = across.measured })
note_value across (value.Own (Measured relay)) =
    Ok (record { ruled = across.ruled; measured = set.insert across.measured relay.identity.0 })
note_value across _ = Ok across
