use Rattle.dirdoc_grammar.proofs.cursor.Cursor.take_quietly.Goals as goal

pub returns-then-waits-clause-later : goal.returns-then-waits-clause-later
returns-then-waits-clause-later c = c.waits.ensures.later c.if-waits.true
