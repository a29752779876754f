-- What is measured of a relay, where the relays of a file stand behind those that were measured.
use Rattle.std.proofs.Common.{◌≡◌, ℕ, Bool, true, false, cond, List, [], ◌∷◌, Option, Some, refl, ap}
use Rattle.std.specs.{Prelude.{map, unwrap_or}, List.find, Option.option_map}
use Rattle.dir_values.{proofs.Orders.same_text, specs.{Digests.same_identity, declared.digest.Fingerprint.Fingerprint}}
use Rattle.bandwidth_file.specs.Relays.{bandwidth_in}
use Rattle.flag_rules.specs.declared.relay.Measured.{Measured}
use Rattle.station_input.specs.declared.frame_said.MeasuredRelay.{MeasuredRelay}
use Rattle.vote_maker.specs.Relays.{is_of, measured_for, unmeasured_relay}
use Rattle.station_commands.specs.MeasuredTold.{AreToldBy, row_relay, told_relay, told_relays, with_bandwidth}

-- what a found line tells
abbrev told : Option MeasuredRelay → Measured
told found = unwrap_or (option_map (λ (relay : MeasuredRelay). relay.measured) found) unmeasured_relay

row_first : (same : Bool) (row : Fingerprint × ℕ) (found : Option MeasuredRelay) (kb : Option ℕ)
    → told found ≡ with_bandwidth kb unmeasured_relay
    → told (cond same (Some (row_relay row)) found) ≡ with_bandwidth (cond same (Some row.1) kb) unmeasured_relay
row_first true row found kb later = refl
row_first false row found kb later = later

-- the relays of a file tell its bandwidths
rows_tell : (file : List (Fingerprint × ℕ)) (identity : Fingerprint)
    → measured_for (map row_relay file) identity ≡ with_bandwidth (bandwidth_in file identity) unmeasured_relay
rows_tell [] identity = refl
rows_tell (row ∷ file) identity =
    row_first (same_identity row.0 identity) row (find (is_of identity) (map row_relay file))
    (bandwidth_in file identity) (rows_tell file identity)

relay_first : (same : Bool) (file : List (Fingerprint × ℕ)) (relay : MeasuredRelay) (identity : Fingerprint)
    (found other : Option MeasuredRelay) → same_identity relay.identity identity ≡ same
    → told other ≡ with_bandwidth (bandwidth_in file identity) (told found)
    → told (cond same (Some (told_relay file relay)) other)
    ≡ with_bandwidth (bandwidth_in file identity) (told (cond same (Some relay) found))
relay_first true file relay identity found other is later =
    ap (λ (bytes : List ℕ). with_bandwidth (bandwidth_in file (record { 0 = bytes })) relay.measured)
    (same_text relay.identity.0 identity.0 is)
relay_first false file relay identity found other is later = later

-- and so do they behind those that were measured
pub all_tell : (file : List (Fingerprint × ℕ)) (before : List MeasuredRelay)
    → AreToldBy file before (told_relays file before)
all_tell file [] identity = rows_tell file identity
all_tell file (relay ∷ before) identity =
    relay_first (same_identity relay.identity identity) file relay identity (find (is_of identity) before)
    (find (is_of identity) (told_relays file before)) refl (all_tell file before identity)
