use Rattle.std.proofs.Common.{◌≡◌, ◌++◌, drop, map}
use Rattle.station_commands.specs.MeasuredTold.{row_relay}
use Rattle.station_commands.proofs.measured_told.push_rows.Given as goal

abbrev pub invariant-loop-identity : goal.invariant-loop-identity
invariant-loop-identity l =
    l.relays.items ++ map row_relay (drop l.identity-index l.rows) ≡ l.fn.relays.items ++ map row_relay l.rows
