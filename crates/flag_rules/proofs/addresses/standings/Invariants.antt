use Rattle.std.proofs.Common.{◌≡◌, map, take}
use Rattle.flag_rules.specs.Standings.{standing_of}
use Rattle.flag_rules.proofs.addresses.standings.Given as goal

abbrev pub invariant-loop-relay : goal.invariant-loop-relay
invariant-loop-relay l = l.standings.items ≡ map (standing_of l.now l.relays) (take l.relay-index l.relays)
