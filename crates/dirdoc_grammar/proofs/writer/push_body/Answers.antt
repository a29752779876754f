use Rattle.std.proofs.{Common.{sym, ◌∙◌, arith}, lemmas.Grind.common_steps}
use Rattle.dirdoc_grammar.proofs.BodyLines.{after_lines, one_turn}
use Rattle.dirdoc_grammar.proofs.writer.push_body.Goals as goal

pub lines-preserved : goal.lines-preserved
lines-preserved c =
    let written = c.in_ok-push_base64_line.ensures.ok in
    record {
      items = one_turn c.lines.rest.now c.split_at.result.0.now c.split_at.result.1.now c.lines.out.items c.push_base64_line.new.out.items _ c.min.result (sym c.is_empty.ensures ∙ c.lines-test.true) c.min.ensures
          c.split_at.ensures.front c.split_at.ensures.back written c.lines.invariant.items;
      front = grind (arith, common_steps, written);
    }

pub returns-clause-ok : goal.returns-clause-ok
returns-clause-ok c = after_lines c.lines.rest.now c.lines.out.items _ (sym c.is_empty.ensures ∙ c.lines-test.false) c.lines.invariant.items
