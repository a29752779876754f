-- What the command answers, call by call.
use Rattle.std.{proofs.Common.{◌≡◌, ℕ, List, Result, Ok, Err, inl, inr, refl, sym, subst}, specs.Global.Vec}
use Rattle.key_port.specs.{Answers.{Relation, Rules}, Signing.SignerSteps}
use Rattle.bandwidth_file.specs.declared.{file.BandFile.BandFile, front.Front.Front}
use Rattle.count_terms.specs.declared.newest.Newest.{Newest}
use Rattle.frame_terms.specs.declared.fault.FrameFault.{FrameFault}
use Rattle.daemon_words.specs.{Stops.Answered, declared.stop.Stop.Stop}
use Rattle.daemon_words.specs.declared.stop.Stop.TheVariants as stop
use Rattle.station_input.specs.declared.facts.StationFacts.{StationFacts}
use Rattle.station_commands.specs.Voting as station
use Rattle.station_commands.specs.{Voting.VoteAnswers, declared.refusal.MakeVoteRefusal.MakeVoteRefusal}
use Rattle.station_commands.specs.declared.file_refusal.BandwidthRefusal.{BandwidthRefusal}
use Rattle.station_commands.specs.{declared.file_refusal.FileVoteRefusal.FileVoteRefusal, Private.GivesFile}
use Rattle.station_commands.specs.{Private.GivesStationBehind, FileTold.{by_vote, of_fault, of_file, of_vote}}
use Rattle.station_commands.specs.WithFile.{BeginsWithFile, FileVoteAnswers, IsBeforeSigner, IsOfStation}
use Rattle.station_commands.specs.WithFile.{station_behind}

module _ {N : Type 0} (rules : Rules) (gives : Relation) (steps : SignerSteps N) (newest : Newest) (now : ℕ)
    (bytes : List ℕ) (old new : N) where
  -- what the command answers
  abbrev pub Answers : Result (List ℕ) FileVoteRefusal → Type 0
  Answers answer = FileVoteAnswers rules gives steps newest now bytes answer old new

  pub no_file : (why : Stop BandwidthRefusal) → GivesFile bytes now (Err why) → Answered Answers (Err (of_file why))
  no_file stop.Memory is = tt
  no_file (stop.Refused why) is = inl (why, refl, is)

  pub no_station : (file : BandFile) (start : ℕ) (why : Stop FrameFault) → BeginsWithFile bytes now file start
      → GivesStationBehind newest file start bytes (Err why) → Answered Answers (Err (of_fault why))
  no_station file start stop.Memory begins is = tt
  no_station file start (stop.Refused fault) begins is = inr (file, start, begins, inl (fault, refl, is))

  module _ (file : BandFile) (start : ℕ) (given : StationFacts) (used : ℕ) (begins : BeginsWithFile bytes now file start)
      (is : station_behind newest file start bytes ≡ Ok (given, used)) where
    pub voted : (text : Vec ℕ)
        → Answered (λ answer. VoteAnswers rules gives steps now given used bytes answer old new) (Ok text)
        → Answered Answers (Ok text)
    voted text told = inr (file, start, begins, inr (given, used, is, told))

    pub no_vote : (why : Stop MakeVoteRefusal)
        → Answered (λ answer. VoteAnswers rules gives steps now given used bytes answer old new) (Err why)
        → Answered Answers (Err (of_vote why))
    no_vote stop.Memory told = tt
    no_vote (stop.Refused why) told = inr (file, start, begins, inr (given, used, is, (why, refl, told)))

-- what is asked before

pub before_vote : (why : Stop MakeVoteRefusal) → IsOfStation (of_vote why) → station.IsOfStation why
before_vote stop.Memory of = of
before_vote (stop.Refused why) of = of

pub unsigned_vote : (why : Stop MakeVoteRefusal) → IsBeforeSigner (of_vote why) → station.IsBeforeSigner why
unsigned_vote stop.Memory before = before
unsigned_vote (stop.Refused why) before = before

-- the moment is the one that the clock gave, and the bytes are those of the input
pub no_file_at : (bytes slice : List ℕ) (now moment : ℕ) (why : Stop BandwidthRefusal) → slice ≡ bytes → now ≡ moment
    → GivesFile slice moment (Err why) → GivesFile bytes now (Err why)
no_file_at bytes slice now moment why same last is =
    subst (λ (b : List ℕ). GivesFile b now (Err why)) same
    (subst (λ (m : ℕ). GivesFile slice m (Err why)) (sym last) is)

pub file_at : (bytes slice : List ℕ) (now moment : ℕ) (front : Front) → slice ≡ bytes → now ≡ moment
    → GivesFile slice moment (Ok front) → BeginsWithFile bytes now front.file front.used
file_at bytes slice now moment front same last is =
    subst (λ (b : List ℕ). BeginsWithFile b now front.file front.used) same
    (subst (λ (m : ℕ). BeginsWithFile slice m front.file front.used) (sym last) is.0)

pub station_at : (newest : Newest) (file : BandFile) (start : ℕ) (bytes slice : List ℕ)
    (result : Result (StationFacts × ℕ) (Stop FrameFault))
    → slice ≡ bytes → GivesStationBehind newest file start slice result
    → GivesStationBehind newest file start bytes result
station_at newest file start bytes slice result same is =
    subst (λ (b : List ℕ). GivesStationBehind newest file start b result) same is
