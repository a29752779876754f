use Rattle.std.proofs.Common.{length}
use Rattle.dir_values.{specs.Arguments.arguments_at, proofs.ListedFlags.Ascends}
use Rattle.dir_values.proofs.flag_list.wrong_while_ascending.Given as goal

abbrev pub invariant-arguments : goal.invariant-arguments
invariant-arguments l = Ascends (arguments_at l.start l.text) l.arguments l.last

abbrev pub decreases-arguments : goal.decreases-arguments
decreases-arguments l = length l.arguments
