use Rattle.std.proofs.Common.{rules}
use Rattle.field_votes.proofs.Leaders.{stays_at, moves_at}
use Rattle.field_votes.proofs.choosing.after.Goals as goal

pub returns-then-outdoes-clause-value : goal.returns-then-outdoes-clause-value
returns-then-outdoes-clause-value g c = λ value e.
    moves_at g.T.Ballot.order c.args.values.now c.args.best c.in-Some.place c.args.i c.index-values-place.result c.index-values-i.result value c.in-Some.is (search rules) c.requires.value c.index-values-place.is c.index-values-i.is (search rules) e

pub returns-else-outdoes-clause-value : goal.returns-else-outdoes-clause-value
returns-else-outdoes-clause-value g c = λ value e.
    stays_at g.T.Ballot.order c.args.values.now c.args.best c.in-Some.place c.args.i c.index-values-place.result c.index-values-i.result value c.in-Some.is (search rules) c.requires.value c.index-values-place.is c.index-values-i.is (search rules) e
