use Rattle.std.proofs.Common.{◌≡◌, length}
use Rattle.dir_values.specs.Numbers.{wrong_number}
use Rattle.dir_values.proofs.number_list.wrong_number.Given as goal

abbrev pub invariant-arguments : goal.invariant-arguments
invariant-arguments l = wrong_number l.arguments ≡ wrong_number l.fn.arguments

abbrev pub decreases-arguments : goal.decreases-arguments
decreases-arguments l = length l.arguments
