use Rattle.std.proofs.Common.{◌≤◌}
use Rattle.low_checks.proofs.notes.notes_in_order.Given as goal

abbrev pub invariant-loop-note : goal.invariant-loop-note
invariant-loop-note l = l.count ≤ l.note-index
