use Rattle.std.proofs.Common.{◌≡◌, take}
use Rattle.station_commands.specs.Order.{identities_of}
use Rattle.station_commands.proofs.order.members_of.Given as goal

abbrev pub invariant-loop-authority : goal.invariant-loop-authority
invariant-loop-authority l = l.members.items ≡ identities_of (take l.authority-index l.authorities)
