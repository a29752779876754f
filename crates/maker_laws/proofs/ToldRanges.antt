-- What was measured is in range, with the bandwidths of a bandwidth file.
use Rattle.std.proofs.{Common.{ℕ, List, [], ◌∷◌}, lemmas.List.Elements.{All-append, All-cons, All-map, All-nil}}
use Rattle.std.specs.Prelude.{All, map}
use Rattle.bandwidth_file.specs.{declared.file.BandFile.BandFile, Files.IsBandFile}
use Rattle.station_input.specs.declared.frame_said.MeasuredRelay.{MeasuredRelay}
use Rattle.maker_laws.{specs.Ranges.IsMeasuredInRange, proofs.FileRanges.{given_is, relays_are}}
use Rattle.station_commands.specs.MeasuredTold.{row_relay, told_relay, told_relays}

-- of the relays that were measured before
each_told : (content : List ℕ) (file : BandFile) → IsBandFile content file → (before : List MeasuredRelay)
    → All IsMeasuredInRange (map (told_relay file.relays) before)
each_told content file is [] = All-nil IsMeasuredInRange
each_told content file is (relay ∷ before) =
    All-cons IsMeasuredInRange (told_relay file.relays relay) (map (told_relay file.relays) before)
    (given_is content file is relay.identity) (each_told content file is before)

-- and of those of the file behind them
pub told_are : (content : List ℕ) (file : BandFile) → IsBandFile content file → (before : List MeasuredRelay)
    → All IsMeasuredInRange (told_relays file.relays before)
told_are content file is before =
    All-append IsMeasuredInRange (map (told_relay file.relays) before) (map row_relay file.relays)
    (each_told content file is before)
    (All-map IsMeasuredInRange row_relay file.relays (relays_are content file is))
