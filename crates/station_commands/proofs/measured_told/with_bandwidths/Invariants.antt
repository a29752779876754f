use Rattle.std.proofs.Common.{◌≡◌, ◌++◌, drop, map}
use Rattle.station_commands.specs.MeasuredTold.{told_relay}
use Rattle.station_commands.proofs.measured_told.with_bandwidths.Given as goal

abbrev pub invariant-loop-relay : goal.invariant-loop-relay
invariant-loop-relay l =
    l.relays.items ++ map (told_relay l.file) (drop l.relay-index l.measured) ≡ map (told_relay l.file) l.measured
