use Rattle.std.proofs.Common.{◌≡◌, sym, false, ◌∙◌, arith}
use Rattle.item_terms.specs.Words.{begins_dash}
use Rattle.dirdoc_grammar.proofs.{Cursors.line_on, FirstLine.ends_inside}
use Rattle.dirdoc_grammar.proofs.cursor.past_lines.Goals as goal

pub lines-preserved : goal.lines-preserved
lines-preserved c =
    let i = c.lines.invariant in
    let plain : begins_dash c.in-Ok.text.now ≡ false = sym c.begins_dash.ensures ∙ c.if-begins_dash.false in
    let order = i.order in
    let later = i.later in
    record {
      order = omega (arith, order);
      within = omega (arith, ends_inside c.lines.line c.args.bytes.now c.in-Ok.text.now c.lines-test.true c.in-Ok.ensures.0);
      later = omega (arith, later);
      past = λ place so_far stands.
          line_on c.args.limit place c.args.begin c.lines.line so_far c.args.bytes.now c.in-Ok.text.now c.lines-test.true c.in-Ok.ensures plain (i.past place so_far stands);
    }
