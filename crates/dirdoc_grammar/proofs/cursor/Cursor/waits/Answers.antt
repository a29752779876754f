use Rattle.std.proofs.Common.{length}
use Rattle.dirdoc_grammar.proofs.{LaterItems.later_of, Giving.gives_quiet}
use Rattle.dirdoc_grammar.proofs.cursor.Cursor.waits.Goals as goal

pub returns-then-quiet-clause-takes : goal.returns-then-quiet-clause-takes
returns-then-quiet-clause-takes c =
    λ is. gives_quiet c.args.bytes.now c.args.self.now c.requires.at (c.is_quiet-quiet.ensures.quiet is)

pub returns-then-quiet-clause-later : goal.returns-then-quiet-clause-later
returns-then-quiet-clause-later c =
    λ is.
    let s = c.requires.at.stands in
    let scanned = record c.args.self.now { scanned = length c.args.bytes.now } in
    later_of c.args.bytes.now scanned s (c.is_quiet-quiet.ensures.quiet is s.open_ s.kind)
