-- What stands behind the bandwidth file.
use Rattle.std.proofs.Common.{◌≡◌, ℕ, ◌+◌, ◌≤◌, ◌<◌, ◌^◌, List, length, drop, Ok, Err, sym, ap, subst, ◌∙◌, arith}
use Rattle.std.proofs.lemmas.List.{length-drop}
use Rattle.count_terms.specs.declared.newest.Newest.{Newest}
use Rattle.frame_terms.specs.declared.fault.ReadRefusal.{ReadRefusal}
use Rattle.frame_terms.specs.declared.fault.ReadRefusal.TheVariants as read
use Rattle.bandwidth_file.specs.declared.file.BandFile.{BandFile}
use Rattle.station_input.specs.{Reading.ReadsStation, declared.facts.StationFacts.StationFacts}
use Rattle.blank_lines.specs.Behind.{FitsBehind}
use Rattle.station_laws.proofs.InputFaults.{station_within}
use Rattle.station_commands.specs.{Private.GivesStationBehind, WithFile.{told_from, told_station}}

-- what was read from a place on stands there
pub stands_behind : (newest : Newest) (file : BandFile) (start : ℕ) (bytes rest : List ℕ) (given told : StationFacts)
    (used : ℕ)
    → rest ≡ drop start bytes → start ≤ length bytes → ReadsStation newest rest (Ok (given, used))
    → told ≡ told_station file given → GivesStationBehind newest file start bytes (Ok (told, start + used))
stands_behind newest file start bytes rest given told used same within read is =
    let here : ReadsStation newest (drop start bytes) (Ok (given, used)) =
    subst (λ (r : List ℕ). ReadsStation newest r (Ok (given, used))) same read in
    let long = length-drop start bytes in (
      ap (told_from file start) here.0 ∙ ap (λ (t : StationFacts). Ok (t, start + used)) (sym is),
      omega (arith, here.1, long, within),
    )

-- its place in the input is a number of 64 bits
pub fits_behind : (newest : Newest) (start : ℕ) (bytes rest : List ℕ) (refused : ReadRefusal) → rest ≡ drop start bytes
    → start ≤ length bytes → length bytes < 2 ^ 61 → ReadsStation newest rest (Err refused) → FitsBehind start refused
fits_behind newest start bytes rest (read.Frame fault) same within short is =
    let size : length rest ≡ length (drop start bytes) = ap (λ (l : List ℕ). length l) same in
    omega (arith, station_within newest rest fault is, size, length-drop start bytes, within, short)
fits_behind newest start bytes rest read.Memory same within short is = tt
