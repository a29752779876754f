use Rattle.std.proofs.Common.{◌≡◌, ◌++◌, length, map}
use Rattle.dir_values.specs.{Arguments.texts_of, Numbers.{number_in, numbers_in}}
use Rattle.dir_values.proofs.number_list.numbers_in.Given as goal

abbrev pub invariant-arguments : goal.invariant-arguments
invariant-arguments l = l.read ++ map number_in (texts_of l.arguments) ≡ numbers_in l.fn.text

abbrev pub decreases-arguments : goal.decreases-arguments
decreases-arguments l = length l.arguments
