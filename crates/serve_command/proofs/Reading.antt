-- What was read of what a station is given, or why it was not.
use Rattle.std.proofs.Common.{◌≡◌, ℕ, List, Ok, Err, refl, subst, inl, inr}
use Rattle.bandwidth_file.specs.declared.front.Front.{Front}
use Rattle.daemon_words.specs.declared.command.Measures.TheVariants as measures
use Rattle.count_terms.specs.declared.newest.Newest.{Newest}
use Rattle.frame_terms.specs.declared.fault.FrameFault.{FrameFault}
use Rattle.daemon_words.specs.declared.stop.Stop.{Stop}
use Rattle.daemon_words.specs.declared.stop.Stop.TheVariants as stop
use Rattle.station_input.specs.declared.facts.StationFacts.{StationFacts}
use Rattle.station_commands.specs.{Voting.GivesStation, Private.{GivesFile, GivesStationBehind}}
use Rattle.station_commands.specs.WithFile.{BeginsWithFile, IsFaultyBehind, RefusesFile}
use Rattle.station_commands.specs.declared.file_refusal.BandwidthRefusal.{BandwidthRefusal}
use Rattle.serve_command.specs.{Private.{IsReadIn, StopsFor}, Starting.IsFaultyIn, Told.{of_fault, of_file}}

module _ (newest : Newest) (now : ℕ) (bytes : List ℕ) where
  -- ---- without a file

  pub read_there : (given : StationFacts) (used : ℕ) → GivesStation newest bytes (Ok (given, used))
      → IsReadIn measures.Station newest now bytes given used
  read_there given used is = record { stands = is.0; within = is.1 }

  pub not_there : (why : Stop FrameFault) → GivesStation newest bytes (Err why)
      → StopsFor (IsFaultyIn measures.Station newest now bytes) (of_fault why)
  not_there stop.Memory is = tt
  not_there (stop.Refused fault) is = (fault, refl, is)

  -- ---- behind a file; a slice of the bytes is all of them

  -- there is no file
  pub no_file : (slice : List ℕ) (why : Stop BandwidthRefusal) → slice ≡ bytes → GivesFile slice now (Err why)
      → StopsFor (IsFaultyIn measures.File newest now bytes) (of_file why)
  no_file slice stop.Memory same is = tt
  no_file slice (stop.Refused why) same is =
      inl (why, refl, subst (λ (b : List ℕ). RefusesFile b now why) same is)

  -- there is one
  pub begins : (slice : List ℕ) (front : Front) → slice ≡ bytes → GivesFile slice now (Ok front)
      → BeginsWithFile bytes now front.file front.used
  begins slice front same is = subst (λ (b : List ℕ). BeginsWithFile b now front.file front.used) same is.0

  module _ (slice : List ℕ) (front : Front) (same : slice ≡ bytes)
      (begun : BeginsWithFile bytes now front.file front.used) where
    pub read_behind : (given : StationFacts) (used : ℕ)
        → GivesStationBehind newest front.file front.used slice (Ok (given, used))
        → IsReadIn measures.File newest now bytes given used
    read_behind given used is =
        let there =
        subst (λ (b : List ℕ). GivesStationBehind newest front.file front.used b (Ok (given, used))) same is in
        record {
          stands = record { file = front.file; start = front.used; begins = begun; stands = there.0 };
          within = there.1;
        }

    pub faulty_behind : (why : Stop FrameFault) → GivesStationBehind newest front.file front.used slice (Err why)
        → StopsFor (IsFaultyIn measures.File newest now bytes) (of_fault why)
    faulty_behind stop.Memory is = tt
    faulty_behind (stop.Refused fault) is =
        inr (
          front.file,
          front.used,
          begun,
          (fault, refl, subst (λ (b : List ℕ). IsFaultyBehind newest front.file front.used b fault) same is),
        )
