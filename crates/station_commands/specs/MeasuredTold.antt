-- What was measured of relays, where a bandwidth file tells their bandwidths ("Bandwidth File Format").
use Rattle.std.specs.Prelude.{◌≡◌, ℕ, List, ◌++◌, map, Option, Some}
use Rattle.dir_values.specs.declared.digest.Fingerprint.{Fingerprint}
use Rattle.bandwidth_file.specs.Relays.{bandwidth_in}
use Rattle.flag_rules.specs.declared.relay.Measured.{Measured}
use Rattle.station_input.specs.declared.frame_said.MeasuredRelay.{MeasuredRelay}
use Rattle.vote_maker.specs.Relays.{measured_for, unmeasured_relay}

-- what was measured of a relay, with this bandwidth, or with none
abbrev pub with_bandwidth : Option ℕ → Measured → Measured
with_bandwidth kb measured = record measured { kb = kb }

-- a measured relay with the bandwidth that a file gives it, or with none
abbrev pub told_relay : List (Fingerprint × ℕ) → MeasuredRelay → MeasuredRelay
told_relay file relay = record {
  identity = relay.identity;
  measured = with_bandwidth (bandwidth_in file relay.identity) relay.measured;
}

-- a relay of which only its bandwidth was measured
abbrev pub row_relay : Fingerprint × ℕ → MeasuredRelay
row_relay row = record { identity = row.0; measured = with_bandwidth (Some row.1) unmeasured_relay }

-- the relays that were measured, each with its bandwidth by a file, and behind them those of the file
abbrev pub told_relays : List (Fingerprint × ℕ) → List MeasuredRelay → List MeasuredRelay
told_relays file before = map (told_relay file) before ++ map row_relay file

-- of each relay the same was measured as before, but for its bandwidth, which is the one that a file gives it, or none
abbrev pub AreToldBy : List (Fingerprint × ℕ) → List MeasuredRelay → List MeasuredRelay → Type 0
AreToldBy file before after =
    (identity : Fingerprint)
    → measured_for after identity ≡ with_bandwidth (bandwidth_in file identity) (measured_for before identity)
