use Rattle.std.proofs.Common.{◌≡◌, length, map}
use Rattle.item_terms.specs.Words.{words_of}
use Rattle.dir_values.specs.FlagSets.{has_flag}
use Rattle.consensus_calc.specs.Marks.{flag_marks}
use Rattle.consensus_calc.proofs.marks.mark.Given as goal

abbrev pub invariant-arguments : goal.invariant-arguments
invariant-arguments l = record {
  marks : flag_marks l.known l.marks.items (map (λ argument. argument.text) l.arguments) ≡ map (λ flag. has_flag (words_of l.fn.text) flag) l.known;
  long : length l.marks.items ≡ length l.known;
}

abbrev pub decreases-arguments : goal.decreases-arguments
decreases-arguments l = length l.arguments
