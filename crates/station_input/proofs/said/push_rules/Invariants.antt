use Rattle.std.proofs.Common.{◌≡◌, ◌++◌, drop}
use Rattle.station_input.specs.Saying.{rules_in}
use Rattle.station_input.proofs.said.push_rules.Given as goal

abbrev pub invariant-loop-one : goal.invariant-loop-one
invariant-loop-one l = l.out ++ rules_in (drop l.one-index l.taken) ≡ l.fn.out ++ rules_in l.taken
