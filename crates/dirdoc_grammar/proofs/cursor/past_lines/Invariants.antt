use Rattle.std.proofs.Common.{◌-◌, ◌≤◌, length}
use Rattle.dirdoc_grammar.specs.Cursors.{Past}
use Rattle.dirdoc_grammar.proofs.cursor.past_lines.Given as goal

abbrev pub invariant-lines : goal.invariant-lines
invariant-lines l = record {
  order : l.begin ≤ l.line;
  within : l.line ≤ length l.bytes;
  later : l.fn.line ≤ l.line;
  past : Past l.limit l.begin l.bytes l.fn.line l.line;
}

abbrev pub decreases-lines : goal.decreases-lines
decreases-lines l = length l.bytes - l.line
