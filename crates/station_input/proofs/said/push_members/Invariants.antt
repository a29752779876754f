use Rattle.std.proofs.Common.{◌≡◌, ◌++◌, drop}
use Rattle.station_input.specs.Saying.{members_in}
use Rattle.station_input.proofs.said.push_members.Given as goal

abbrev pub invariant-loop-one : goal.invariant-loop-one
invariant-loop-one l = l.out ++ members_in (drop l.one-index l.taken) ≡ l.fn.out ++ members_in l.taken
