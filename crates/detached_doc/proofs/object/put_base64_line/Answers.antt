use Rattle.std.proofs.Common.{List, ℕ, [], ◌∷◌, ap, ◌∙◌}
use Rattle.dirdoc_grammar.specs.Bodies.{base64_of}
use Rattle.text_page.{specs.Pages.with_text, proofs.Pages.also}
use Rattle.detached_doc.proofs.object.put_base64_line.Goals as goal

pub returns : goal.returns
returns c =
    also c.args.page.now c.put.new.self c.put-2.new.self (base64_of c.args.bytes.now) (10 ∷ [])
    (c.put.ensures ∙ ap (λ (l : List ℕ). with_text c.args.page.now l) c.encode_line-count.ensures.text) c.put-2.ensures
