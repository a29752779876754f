use Rattle.std.proofs.Common.{◌≡◌, length}
use Rattle.item_terms.specs.Base64Text.{joined_text}
use Rattle.dirdoc_grammar.specs.{declared.base64_text.Group.TheVariants.Start, Groups.goes_on}
use Rattle.dirdoc_grammar.proofs.base64_text.behind_groups.Given as goal

abbrev pub invariant-groups : goal.invariant-groups
invariant-groups l = goes_on Start (joined_text l.rest) ≡ goes_on Start (joined_text l.text)

abbrev pub decreases-groups : goal.decreases-groups
decreases-groups l = length l.rest
