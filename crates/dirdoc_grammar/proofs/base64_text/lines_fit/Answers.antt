use Rattle.std.proofs.Common.{◌∙◌}
use Rattle.dirdoc_grammar.proofs.LineSizes.{after_lines, no_turn, one_turn}
use Rattle.dirdoc_grammar.proofs.base64_text.lines_fit.Goals as goal

pub returns-then-count-lt1 : goal.returns-then-count-lt1
returns-then-count-lt1 c = no_turn c.lines.rest.now c.args.text.now c.in-Some.count c.in-Some.ensures c.then-count-lt1.either c.lines.invariant

pub lines-preserved : goal.lines-preserved
lines-preserved c = one_turn c.lines.rest.now c.args.text.now c.in-Some.count c.in-Some.ensures c.if-count-lt1.false c.if-count-gt64.false c.lines.invariant

pub returns : goal.returns
returns c = c.is_empty.ensures ∙ after_lines c.memchr.result c.lines.rest.now c.args.text.now c.memchr.ensures c.in_default.not-Some c.lines.invariant
