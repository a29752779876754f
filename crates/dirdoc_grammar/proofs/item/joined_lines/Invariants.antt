use Rattle.std.proofs.Common.{◌≡◌, ◌++◌, length}
use Rattle.item_terms.specs.Base64Text.{joined_text}
use Rattle.dirdoc_grammar.proofs.item.joined_lines.Given as goal

abbrev pub invariant-lines : goal.invariant-lines
invariant-lines l = l.text.items ++ joined_text l.rest ≡ joined_text l.lines

abbrev pub decreases-lines : goal.decreases-lines
decreases-lines l = length l.rest
