use Rattle.std.proofs.Common.{◌-◌, length}
use Rattle.dirdoc_grammar.proofs.NextItems.{BlankTo}
use Rattle.dirdoc_grammar.proofs.front.next_item.Given as goal

abbrev pub invariant-lines : goal.invariant-lines
invariant-lines l = BlankTo l.limit l.place l.line l.bytes

abbrev pub decreases-lines : goal.decreases-lines
decreases-lines l = length l.bytes - l.line
