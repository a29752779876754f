use Rattle.std.proofs.Common.{◌∙◌, arith}
use Rattle.dirdoc_grammar.proofs.Base64Groups.{goes_on-joined}
use Rattle.dirdoc_grammar.proofs.base64_text.is_base64.Goals as goal

pub returns : goal.returns
returns c = c.fills_groups.ensures ∙ goes_on-joined c.args.text.now (λ i. let fits = c.type_inv.text i in omega arith)
