use Rattle.std.proofs.Common.{◌≡◌, drop}
use Rattle.item_terms.specs.Base64Text.{joined_text}
use Rattle.dirdoc_grammar.specs.{declared.base64_text.Group.TheVariants.Start, Groups.goes_on}
use Rattle.dirdoc_grammar.proofs.base64_text.ends_groups.Given as goal

abbrev pub invariant-bytes : goal.invariant-bytes
invariant-bytes l = goes_on l.group (joined_text (drop l.b-index l.text)) ≡ goes_on Start (joined_text l.text)
