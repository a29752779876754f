use Rattle.std.proofs.Common.{sym, ◌∙◌}
use Rattle.detached_doc.proofs.BodyTurns.{after_lines, one_turn}
use Rattle.detached_doc.proofs.object.put_body.Goals as goal

pub lines-preserved : goal.lines-preserved
lines-preserved c =
    one_turn c.lines.rest.now c.split_at.result.0.now c.split_at.result.1.now c.lines.page c.put_base64_line.new.page _
    c.min.result (sym c.is_empty.ensures ∙ c.lines-test.true) c.min.ensures c.split_at.ensures.front
    c.split_at.ensures.back c.put_base64_line.ensures c.lines.invariant

pub returns : goal.returns
returns c = after_lines c.lines.rest.now c.lines.page _ (sym c.is_empty.ensures ∙ c.lines-test.false) c.lines.invariant
