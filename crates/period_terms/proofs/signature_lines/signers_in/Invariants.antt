use Rattle.std.{proofs.Common.{◌≡◌, ◌≤◌, take}, specs.Prelude.count_by}
use Rattle.period_terms.specs.States.{has_line}
use Rattle.period_terms.proofs.signature_lines.signers_in.Given as goal

-- the members so far that have a signature are counted
abbrev pub invariant-members : goal.invariant-members
invariant-members l = record {
  count : l.count ≡ count_by (λ member. has_line l.lines member) (take l.i l.roster);
  within : l.count ≤ l.i;
}
