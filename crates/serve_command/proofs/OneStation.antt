-- An input gives one station; and what is refused of one thing is refused of the same.
use Rattle.std.proofs.Common.{◌≡◌, ℕ, List, Result, Ok, sym, ap, subst, ◌∙◌}
use Rattle.key_port.specs.Answers.{Rules}
use Rattle.frame_terms.specs.declared.fault.{ReadRefusal.ReadRefusal, FrameFault.FrameFault}
use Rattle.bandwidth_file.specs.{Ages.IsOld, declared.file.BandFile.BandFile}
use Rattle.count_terms.specs.declared.newest.Newest.{Newest}
use Rattle.daemon_words.specs.declared.command.Measures.{Measures}
use Rattle.daemon_words.specs.declared.command.Measures.TheVariants as measures
use Rattle.serve_command.specs.{declared.refusal.ServeRefusal.ServeRefusal, Starting.{RefusesStation, StandsBehind}}
use Rattle.serve_command.specs.Starting.{StandsIn}
use Rattle.station_input.specs.declared.facts.StationFacts.{StationFacts}
use Rattle.station_commands.{specs.WithFile.{IsFaultyBehind, station_behind}, proofs.FilesNotRefused.one_front}
use Rattle.station_commands.proofs.{FilesNotRefused.one_start, OneBasis.{given_in, one_station, one_used, used_in}}

-- ---- what holds of one thing holds of the same

-- of a file
pub old_alike : (now : ℕ) (a b : BandFile) → a ≡ b → IsOld a now → IsOld b now
old_alike now a b same old = subst (λ (file : BandFile). IsOld file now) same old

-- of what stands behind it
stands_alike : (newest : Newest) (bytes : List ℕ) (a b : BandFile) (m n : ℕ)
    (found : Result (StationFacts × ℕ) ReadRefusal) → a ≡ b
    → m ≡ n → station_behind newest a m bytes ≡ found → station_behind newest b n bytes ≡ found
stands_alike newest bytes a b m n found file start is =
    ap (λ (place : ℕ). station_behind newest b place bytes) (sym start)
    ∙ ap (λ (one : BandFile). station_behind newest one m bytes) (sym file) ∙ is

-- of why that is not what a station is given: at the same place, of the same file, and of both
faulty_at : (newest : Newest) (bytes : List ℕ) (file : BandFile) (m n : ℕ) (fault : FrameFault) → m ≡ n
    → IsFaultyBehind newest file m bytes fault → IsFaultyBehind newest file n bytes fault
faulty_at newest bytes file m n fault start is =
    subst (λ (place : ℕ). IsFaultyBehind newest file place bytes fault) start is

faulty_of : (newest : Newest) (bytes : List ℕ) (a b : BandFile) (start : ℕ) (fault : FrameFault) → a ≡ b
    → IsFaultyBehind newest a start bytes fault → IsFaultyBehind newest b start bytes fault
faulty_of newest bytes a b start fault file is =
    subst (λ (one : BandFile). IsFaultyBehind newest one start bytes fault) file is

pub faulty_alike : (newest : Newest) (bytes : List ℕ) (a b : BandFile) (m n : ℕ) (fault : FrameFault) → a ≡ b → m ≡ n
    → IsFaultyBehind newest a m bytes fault → IsFaultyBehind newest b n bytes fault
faulty_alike newest bytes a b m n fault file start is =
    faulty_at newest bytes b m n fault start (faulty_of newest bytes a b m fault file is)

-- of why a station starts no authority: at the same place, of the same station, and of both
refused_at : (rules : Rules) (now : ℕ) (given : StationFacts) (m n : ℕ) (bytes : List ℕ) (why : ServeRefusal) → m ≡ n
    → RefusesStation rules now given m bytes why → RefusesStation rules now given n bytes why
refused_at rules now given m n bytes why place is =
    subst (λ (used : ℕ). RefusesStation rules now given used bytes why) place is

refused_of : (rules : Rules) (now : ℕ) (a b : StationFacts) (used : ℕ) (bytes : List ℕ) (why : ServeRefusal) → a ≡ b
    → RefusesStation rules now a used bytes why → RefusesStation rules now b used bytes why
refused_of rules now a b used bytes why station is =
    subst (λ (given : StationFacts). RefusesStation rules now given used bytes why) station is

pub refused_alike : (rules : Rules) (now : ℕ) (a b : StationFacts) (m n : ℕ) (bytes : List ℕ) (why : ServeRefusal) → a ≡ b
    → m ≡ n → RefusesStation rules now a m bytes why → RefusesStation rules now b n bytes why
refused_alike rules now a b m n bytes why station place is =
    refused_at rules now b m n bytes why place (refused_of rules now a b m bytes why station is)

-- ---- one station

-- what was read is one station, which ends at one place
same_given : (a b : StationFacts) (m n : ℕ) (found : Result (StationFacts × ℕ) ReadRefusal) → found ≡ Ok (a, m)
    → found ≡ Ok (b, n) → b ≡ a
same_given a b m n found first second = ap (given_in a) (sym second ∙ first)

same_used : (a b : StationFacts) (m n : ℕ) (found : Result (StationFacts × ℕ) ReadRefusal) → found ≡ Ok (a, m)
    → found ≡ Ok (b, n) → n ≡ m
same_used a b m n found first second = ap used_in (sym second ∙ first)

module _ (newest : Newest) (now : ℕ) (bytes : List ℕ) (a b : StationFacts) (m n : ℕ) where
  -- so is what stands behind a file
  one_behind : (first : StandsBehind newest now bytes a m) (second : StandsBehind newest now bytes b n)
      → station_behind newest first.file first.start bytes ≡ Ok (b, n)
  one_behind first second =
      stands_alike newest bytes second.file first.file second.start first.start (Ok (b, n))
      (one_front bytes first.file second.file first.start second.start first.begins.front second.begins.front)
      (one_start bytes first.file second.file first.start second.start first.begins.front second.begins.front)
      second.stands

  given_behind : StandsBehind newest now bytes a m → StandsBehind newest now bytes b n → b ≡ a
  given_behind first second =
      same_given a b m n (station_behind newest first.file first.start bytes) first.stands (one_behind first second)

  used_behind : StandsBehind newest now bytes a m → StandsBehind newest now bytes b n → n ≡ m
  used_behind first second =
      same_used a b m n (station_behind newest first.file first.start bytes) first.stands (one_behind first second)

-- an input has one station
pub one_given : (from : Measures) (newest : Newest) (now : ℕ) (bytes : List ℕ) (a b : StationFacts) (m n : ℕ)
    → StandsIn from newest now bytes a m → StandsIn from newest now bytes b n → b ≡ a
one_given measures.Station newest now bytes a b m n first second = one_station newest bytes b a n m second first
one_given measures.File newest now bytes a b m n first second = given_behind newest now bytes a b m n first second

-- which ends at one place
pub one_place : (from : Measures) (newest : Newest) (now : ℕ) (bytes : List ℕ) (a b : StationFacts) (m n : ℕ)
    → StandsIn from newest now bytes a m → StandsIn from newest now bytes b n → n ≡ m
one_place measures.Station newest now bytes a b m n first second = one_used newest bytes b a n m second first
one_place measures.File newest now bytes a b m n first second = used_behind newest now bytes a b m n first second
