use Rattle.std.proofs.Common.{◌≡◌, ◌≤◌, ◌-◌, vec_len, vec_capacity}
use Rattle.period_terms.specs.Dropping.{dropped_from, lines_but}
use Rattle.period_terms.proofs.signature_lines.drop_lines.Given as goal

-- what is to be left is what is left of those that are still there
abbrev pub invariant-lines : goal.invariant-lines
invariant-lines l = record {
  same : dropped_from l.at l.fn.identity l.lines.items ≡ lines_but l.fn.lines.items l.fn.identity;
  within : l.at ≤ vec_len l.lines;
  few : vec_len l.lines ≤ vec_len l.fn.lines;
  capacity : vec_capacity l.fn.lines ≤ vec_capacity l.lines;
}

abbrev pub decreases-lines : goal.decreases-lines
decreases-lines l = vec_len l.lines - l.at
