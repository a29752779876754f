-- What was measured of a relay is what its first line tells.
use Rattle.std.{proofs.Common.{List, Option, ap}, specs.{Prelude.unwrap_or, Option.option_map, List.Sorted.IsStableBy}}
use Rattle.dir_values.specs.declared.digest.Fingerprint.{Fingerprint}
use Rattle.flag_rules.specs.declared.relay.Measured.{Measured}
use Rattle.flag_rules.proofs.ByIdentity as by_identity
use Rattle.station_input.specs.declared.frame_said.MeasuredRelay.{MeasuredRelay}
use Rattle.vote_maker.specs.{Private.{MeasureAlike, is_measure_before}, Relays.unmeasured_relay}

-- the relay that a line is of
abbrev pub its : MeasuredRelay → Fingerprint
its relay = relay.identity

-- what a line tells, where there is one
abbrev pub told_in : Option MeasuredRelay → Measured
told_in line = unwrap_or (option_map (λ (relay : MeasuredRelay). relay.measured) line) unmeasured_relay

-- sorted lines tell what they told
pub alike : (relays sorted : List MeasuredRelay) → IsStableBy is_measure_before relays sorted
    → MeasureAlike relays sorted
alike relays sorted stable identity =
    ap told_in
    (by_identity.alike its relays sorted stable (record { identity = identity; measured = unmeasured_relay }))
