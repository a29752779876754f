use Rattle.std.proofs.Common.{◌≡◌, ◌++◌, length}
use Rattle.item_terms.specs.Words.{words_of}
use Rattle.dir_values.specs.Arguments.{texts_of}
use Rattle.descriptor_doc.proofs.values.words_in.Given as goal

abbrev pub invariant-words : goal.invariant-words
invariant-words l = l.words.items ++ texts_of l.arguments ≡ words_of l.fn.text

abbrev pub decreases-words : goal.decreases-words
decreases-words l = length l.arguments
