-- The vote that is made with a bandwidth file ("Bandwidth File Format") in front of what a station is given.
use Rattle.std.specs.Prelude.{◌≡◌, ◌⊎◌, ℕ, ◌+◌, List, drop, Some, Result, Ok, Err}
use Rattle.key_port.specs.{Answers.{Relation, Rules}, Signing.SignerSteps}
use Rattle.bandwidth_file.specs.{Ages.IsOld, declared.file.BandFile.BandFile, Fronts.{IsFront, front_fault}}
use Rattle.count_terms.specs.declared.newest.Newest.{Newest}
use Rattle.frame_terms.specs.declared.fault.{ReadRefusal.ReadRefusal, FrameFault.FrameFault}
use Rattle.frame_terms.specs.declared.fault.ReadRefusal.TheVariants as read
use Rattle.daemon_words.specs.{Stops.AnsweredAs, declared.stop.Stop.Stop}
use Rattle.daemon_words.specs.declared.stop.Stop.TheVariants as stop
use Rattle.station_commands.specs.{MeasuredTold.told_relays, Voting.VoteAnswers, FileTold.{by_fault, by_file, by_vote}}
use Rattle.station_commands.specs.declared.file_refusal.BandwidthRefusal.{BandwidthRefusal}
use Rattle.station_commands.specs.declared.file_refusal.FileVoteRefusal.{FileVoteRefusal}
use Rattle.station_input.specs.{Reading.station_of, declared.facts.StationFacts.StationFacts}
use Rattle.blank_lines.specs.Behind.{refusal_behind}
use Rattle.station_commands.specs.Voting as station
use Rattle.station_commands.specs.declared.file_refusal.BandwidthRefusal.TheVariants as bandwidth
use Rattle.station_commands.specs.declared.file_refusal.FileVoteRefusal.TheVariants as refusal

-- ---- the file

-- The input begins with this bandwidth file, which is not too old at this moment; the station's own begins at this place.
pub record BeginsWithFile (bytes : List ℕ) (now : ℕ) (file : BandFile) (start : ℕ) : Type 0 where
  pub front : IsFront bytes file start
  pub young : IsOld file now → ⊥

-- It begins with one that is too old, of this time of measuring.
pub record BeginsWithOldFile (bytes : List ℕ) (now timestamp : ℕ) : Type 0 where
  pub file : BandFile
  pub start : ℕ
  pub front : IsFront bytes file start
  pub old : IsOld file now
  pub time : timestamp ≡ file.timestamp

-- why the file is refused: for its first fault, or else since it is too old
abbrev pub RefusesFile : List ℕ → ℕ → BandwidthRefusal → Type 0
RefusesFile bytes now (bandwidth.Fault fault) = front_fault bytes ≡ Some fault
RefusesFile bytes now (bandwidth.Old timestamp) = BeginsWithOldFile bytes now timestamp

-- ---- the station

-- what a station is given, where a file tells the bandwidths of relays
abbrev pub told_station : BandFile → StationFacts → StationFacts
told_station file given = record given { measured = told_relays file.relays given.measured }

-- that, and the place behind it, where what the station is given was read from a place on; or the fault, by its place in the
-- input
abbrev pub told_from : BandFile → ℕ → Result (StationFacts × ℕ) ReadRefusal → Result (StationFacts × ℕ) ReadRefusal
told_from file start (Ok found) = Ok (told_station file found.0, start + found.1)
told_from file start (Err refusal) = Err (refusal_behind start refusal)

-- what a station is given that stands in the input from a place on, where a file tells the bandwidths of relays
abbrev pub station_behind : Newest → BandFile → ℕ → List ℕ → Result (StationFacts × ℕ) ReadRefusal
station_behind newest file start bytes = told_from file start (station_of newest (drop start bytes))

-- ---- the command

-- the answer is that the file is refused
abbrev pub IsOfFile : List ℕ → ℕ → Result (List ℕ) FileVoteRefusal → Type 0
IsOfFile bytes now answer = (why : BandwidthRefusal) × (answer ≡ Err (by_file why)) × RefusesFile bytes now why

-- what stands behind the file is not what a station is given, with this fault
abbrev pub IsFaultyBehind : Newest → BandFile → ℕ → List ℕ → FrameFault → Type 0
IsFaultyBehind newest file start bytes fault = station_behind newest file start bytes ≡ Err (read.Frame fault)

-- what is answered for what stands behind the file: why that is not what a station is given; or else what is answered for
-- that station, with the bandwidths of the file
abbrev pub AnswersBehind : {N : Type 0} → Rules → Relation → SignerSteps N → Newest → ℕ → BandFile → ℕ → List ℕ
    → Result (List ℕ) FileVoteRefusal → N → N → Type 0
AnswersBehind rules gives steps newest now file start bytes answer old new =
    ((fault : FrameFault) × (answer ≡ Err (by_fault fault)) × IsFaultyBehind newest file start bytes fault)
    ⊎ ((given : StationFacts) × (used : ℕ) × (station_behind newest file start bytes ≡ Ok (given, used))
    × AnsweredAs by_vote (λ own. VoteAnswers rules gives steps now given used bytes own old new) answer)

-- what the command answers to an input at a moment, where this is the newest method that is known: why the file is
-- refused; or else what is answered behind it
abbrev pub FileVoteAnswers : {N : Type 0} → Rules → Relation → SignerSteps N → Newest → ℕ → List ℕ
    → Result (List ℕ) FileVoteRefusal → N → N → Type 0
FileVoteAnswers rules gives steps newest now bytes answer old new =
    IsOfFile bytes now answer
    ⊎ ((file : BandFile) × (start : ℕ) × BeginsWithFile bytes now file start
    × AnswersBehind rules gives steps newest now file start bytes answer old new)

-- ---- what is asked

-- what is refused before a descriptor is checked
abbrev pub IsOfStation : Stop FileVoteRefusal → Type 0
IsOfStation stop.Memory = ⊥
IsOfStation (stop.Refused (refusal.File why)) = Unit {0}
IsOfStation (stop.Refused (refusal.Vote why)) = station.IsOfStation (stop.Refused why)

-- what is refused before the signer is asked
abbrev pub IsBeforeSigner : Stop FileVoteRefusal → Type 0
IsBeforeSigner stop.Memory = ⊥
IsBeforeSigner (stop.Refused (refusal.File why)) = Unit {0}
IsBeforeSigner (stop.Refused (refusal.Vote why)) = station.IsBeforeSigner (stop.Refused why)
