use Rattle.std.proofs.Common.{◌≡◌, false}
use Rattle.feeding_cases.proofs.reading.in_pieces.Given as goal

abbrev pub invariant-pieces : goal.invariant-pieces
invariant-pieces l = l.feeder.finished ≡ false
