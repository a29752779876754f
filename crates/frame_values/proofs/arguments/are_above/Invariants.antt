use Rattle.std.proofs.Common.{◌≡◌, ◌+◌, length}
use Rattle.frame_values.proofs.arguments.are_above.Given as goal

abbrev pub invariant-arguments : goal.invariant-arguments
invariant-arguments l = l.left + length l.fn.arguments ≡ l.limit + length l.arguments

abbrev pub decreases-arguments : goal.decreases-arguments
decreases-arguments l = length l.arguments
