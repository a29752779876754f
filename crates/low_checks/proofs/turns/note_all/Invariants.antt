use Rattle.period_lock.specs.Turns.{IsOf}
use Rattle.low_checks.proofs.turns.note_all.Given as goal

abbrev pub invariant-loop-what : goal.invariant-loop-what
invariant-loop-what g l = IsOf l.shared l.pass
