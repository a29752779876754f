use Rattle.std.proofs.Common.{◌≡◌, length}
use Rattle.dirdoc_grammar.specs.Bodies.{body_text}
use Rattle.text_page.specs.Pages.{with_text}
use Rattle.detached_doc.proofs.object.put_body.Given as goal

abbrev pub invariant-lines : goal.invariant-lines
invariant-lines l = with_text l.page (body_text l.rest) ≡ with_text l.fn.page (body_text l.bytes)

abbrev pub decreases-lines : goal.decreases-lines
decreases-lines l = length l.rest
