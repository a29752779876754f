use Rattle.std.proofs.Common.{◌∙◌, ap, List, ℕ, ◌++◌, ◌∷◌, []}
use Rattle.dirdoc_grammar.{specs.Bodies.{begin_line, body_text, end_line}, proofs.BodyLines.parts_joined}
use Rattle.dirdoc_grammar.proofs.writer.push_object.Goals as goal

pub returns-clause-ok : goal.returns-clause-ok
returns-clause-ok c =
    let words = c.args.words.now in
    parts_joined c.push_dashed-2.result c.args.out.now.items c.push_dashed.new.out.items c.push_body.new.out.items c.push_dashed-2.new.out.items (begin_line words) (body_text c.args.bytes.now) (end_line words)
    (c.in_ok-push_dashed.ensures.ok ∙ ap (λ (l : List ℕ). l ++ begin_line words ++ 10 ∷ []) c.reserve.ensures.items) c.in_ok-push_body.ensures.ok c.push_dashed-2.ensures.ok
