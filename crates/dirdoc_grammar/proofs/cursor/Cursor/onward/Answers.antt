use Rattle.dirdoc_grammar.proofs.Cursors.{at_line}
use Rattle.dirdoc_grammar.proofs.cursor.Cursor.onward.Goals as goal

pub returns-else-line-self-clause-at : goal.returns-else-line-self-clause-at
returns-else-line-self-clause-at c =
    at_line c.args.bytes.now c.args.self c.in-Object.begin c.past_lines-line.result c.requires.at c.in-Object.is c.past_lines-line.ensures.past c.past_lines-line.ensures.order c.past_lines-line.ensures.within
