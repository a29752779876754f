use Rattle.std.proofs.Common.{◌≡◌, ◌++◌, drop}
use Rattle.station_input.specs.Saying.{measured_in}
use Rattle.station_input.proofs.said.push_measured.Given as goal

abbrev pub invariant-loop-one : goal.invariant-loop-one
invariant-loop-one l = l.out ++ measured_in (drop l.one-index l.taken) ≡ l.fn.out ++ measured_in l.taken
