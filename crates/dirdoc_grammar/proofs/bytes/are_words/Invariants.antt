use Rattle.std.proofs.Common.{◌≡◌, drop, true}
use Rattle.item_terms.specs.Words.{are_words}
use Rattle.dirdoc_grammar.proofs.bytes.are_words.Given as goal

abbrev pub invariant-bytes : goal.invariant-bytes
invariant-bytes l = are_words l.at_start (drop l.b-index l.text) ≡ are_words true l.text
