use Rattle.std.proofs.Common.{◌≡◌, ◌++◌}
use Rattle.dir_values.specs.WordSets.{words_in}
use Rattle.dir_values.proofs.word_set.WordSet.copies.Given as goal

abbrev pub invariant-loop-word : goal.invariant-loop-word
invariant-loop-word l = l.copies.items ++ words_in l.word-iterator ≡ l.fn.self
