-- What the calls say that the command is made of.
use Rattle.std.specs.Prelude.{◌≡◌, ℕ, ◌≤◌, List, length, Some, Result, Ok, Err}
use Rattle.bandwidth_file.specs.declared.{file.BandFile.BandFile, front.Front.Front, refusal.BandFault.BandFault}
use Rattle.bandwidth_file.specs.Fronts.{IsFront, front_fault}
use Rattle.count_terms.specs.declared.newest.Newest.{Newest}
use Rattle.frame_terms.specs.declared.fault.{ReadRefusal.ReadRefusal, FrameFault.FrameFault}
use Rattle.frame_terms.specs.declared.fault.ReadRefusal.TheVariants as read
use Rattle.daemon_words.specs.declared.stop.Stop.{Stop}
use Rattle.daemon_words.specs.declared.stop.Stop.TheVariants as stop
use Rattle.station_input.specs.declared.facts.StationFacts.{StationFacts}
use Rattle.blank_lines.specs.Behind.{refusal_behind}
use Rattle.station_commands.specs.WithFile.{BeginsWithFile, IsFaultyBehind, RefusesFile, station_behind}
use Rattle.station_commands.specs.declared.file_refusal.BandwidthRefusal.{BandwidthRefusal}

-- ---- the file

-- the file that an input begins with, or its first fault, or there was no memory
abbrev pub GivesFront : List ℕ → Result Front (Stop BandFault) → Type 0
GivesFront bytes (Ok front) = IsFront bytes front.file front.used × (front.used ≤ length bytes)
GivesFront bytes (Err stop.Memory) = Unit {0}
GivesFront bytes (Err (stop.Refused fault)) = front_fault bytes ≡ Some fault

-- the same, where the file is not too old
abbrev pub GivesFile : List ℕ → ℕ → Result Front (Stop BandwidthRefusal) → Type 0
GivesFile bytes now (Ok front) = BeginsWithFile bytes now front.file front.used × (front.used ≤ length bytes)
GivesFile bytes now (Err stop.Memory) = Unit {0}
GivesFile bytes now (Err (stop.Refused why)) = RefusesFile bytes now why

-- ---- the station

-- that a station input is faulty
abbrev pub station_fault : ReadRefusal → Stop FrameFault
station_fault (read.Frame fault) = stop.Refused fault
station_fault read.Memory = stop.Memory

-- the same, where it stands in the input from a place on
abbrev pub fault_behind : ℕ → ReadRefusal → Stop FrameFault
fault_behind start refused = station_fault (refusal_behind start refused)

-- what a station is given behind the file, and the place behind it; or its fault, or there was no memory
abbrev pub GivesStationBehind : Newest → BandFile → ℕ → List ℕ → Result (StationFacts × ℕ) (Stop FrameFault) → Type 0
GivesStationBehind newest file start bytes (Ok (given, used)) =
    (station_behind newest file start bytes ≡ Ok (given, used)) × (used ≤ length bytes)
GivesStationBehind newest file start bytes (Err stop.Memory) = Unit {0}
GivesStationBehind newest file start bytes (Err (stop.Refused fault)) = IsFaultyBehind newest file start bytes fault
