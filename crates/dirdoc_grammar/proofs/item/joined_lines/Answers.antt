use Rattle.dirdoc_grammar.proofs.JoinedLines.{after_lines, one_turn}
use Rattle.dirdoc_grammar.proofs.item.joined_lines.Goals as goal

pub lines-preserved : goal.lines-preserved
lines-preserved c = one_turn c.lines.rest.now c.lines.text.items _ _ c.in-Some.len c.in-Some.ensures c.in_ok-extend_from_slice.ensures.items c.lines.invariant

pub returns : goal.returns
returns c = after_lines c.memchr.result c.lines.rest.now c.lines.text.items _ _ c.memchr.ensures c.in_default.not-Some c.in_ok-extend_from_slice-2.ensures.items c.lines.invariant
