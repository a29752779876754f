use Rattle.std.proofs.Common.{◌≡◌, length}
use Rattle.item_terms.specs.Base64Text as text64
use Rattle.dirdoc_grammar.proofs.base64_text.lines_fit.Given as goal

abbrev pub invariant-lines : goal.invariant-lines
invariant-lines l = text64.lines_fit 0 l.rest ≡ text64.lines_fit 0 l.text

abbrev pub decreases-lines : goal.decreases-lines
decreases-lines l = length l.rest
