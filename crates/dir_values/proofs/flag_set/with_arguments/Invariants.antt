use Rattle.std.{proofs.Common.{◌≡◌, length}, specs.List.fold}
use Rattle.dir_values.specs.{Arguments.texts_of, FlagSets.with_flag}
use Rattle.dir_values.proofs.flag_set.with_arguments.Given as goal

abbrev pub invariant-arguments : goal.invariant-arguments
invariant-arguments l = fold with_flag l.words (texts_of l.arguments) ≡ fold with_flag (with_flag l.fn.flags l.fn.flag) (texts_of l.fn.arguments)

abbrev pub decreases-arguments : goal.decreases-arguments
decreases-arguments l = length l.arguments
