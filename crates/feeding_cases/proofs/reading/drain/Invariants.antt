use Rattle.std.proofs.Common.{◌≡◌}
use Rattle.feeding_cases.proofs.reading.drain.Given as goal

abbrev pub invariant-items : goal.invariant-items
invariant-items l = l.feeder.finished ≡ l.fn.feeder.finished
