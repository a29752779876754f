use Rattle.std.proofs.Common.{length, map}
use Rattle.dir_values.{specs.Arguments.arguments_at, proofs.ListedFlags.Listed}
use Rattle.list_values.specs.Params.{its_name}
use Rattle.list_values.proofs.param_list.wrong_in_any_order.Given as goal

abbrev pub invariant-arguments : goal.invariant-arguments
invariant-arguments l = Listed (map its_name (arguments_at l.start l.text)) (map its_name l.arguments) l.before

abbrev pub decreases-arguments : goal.decreases-arguments
decreases-arguments l = length l.arguments
