use Rattle.std.{proofs.Common.◌≡◌, specs.Prelude.slice_get}
use Rattle.item_terms.specs.Words.{words_of, argument}
use Rattle.dirdoc_grammar.proofs.item.Item.argument.Given as goal

abbrev pub invariant-words : goal.invariant-words
invariant-words l = slice_get (words_of l.rest) l.left ≡ argument l.n l.self.arguments.now

abbrev pub decreases-words : goal.decreases-words
decreases-words l = l.left
