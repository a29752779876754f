use Rattle.std.proofs.Common.{◌-◌, length}
use Rattle.dirdoc_grammar.{specs.Seen.seen_item, proofs.ObjectSteps.LinesTo}
use Rattle.dirdoc_grammar.proofs.object.lines_of.Given as goal

abbrev pub invariant-lines : goal.invariant-lines
invariant-lines l = LinesTo l.limit (seen_item l.item) l.words l.first l.place l.bytes

abbrev pub decreases-lines : goal.decreases-lines
decreases-lines l = length l.bytes - l.place
