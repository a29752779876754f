use Rattle.std.proofs.Common.{length}
use Rattle.dir_values.{specs.Arguments.arguments_at, proofs.ListedFlags.Listed}
use Rattle.dir_values.proofs.flag_list.wrong_in_any_order.Given as goal

abbrev pub invariant-arguments : goal.invariant-arguments
invariant-arguments l = Listed (arguments_at l.start l.text) l.arguments l.before

abbrev pub decreases-arguments : goal.decreases-arguments
decreases-arguments l = length l.arguments
