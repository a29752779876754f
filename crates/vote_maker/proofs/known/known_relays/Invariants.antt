use Rattle.std.proofs.Common.{◌≡◌, take}
use Rattle.vote_maker.specs.Relays.{known_relays}
use Rattle.vote_maker.proofs.known.known_relays.Given as goal

abbrev pub invariant-relays : goal.invariant-relays
invariant-relays g l = l.known.items ≡ known_relays l.measures (take l.i l.pool.descriptors)
