use Rattle.std.proofs.Common.{◌≡◌, ℕ, ◌≤◌}
use Rattle.exit_summary.{specs.Policies.{accepts_port, most_rejected}, proofs.Walks.accepted_from}
use Rattle.exit_summary.proofs.walk.stretch_to.Given as goal

abbrev pub invariant-loop-i : goal.invariant-loop-i
invariant-loop-i l = record {
  from_one : 1 ≤ l.first;
  within : l.first ≤ l.port;
  few : l.rejected ≤ most_rejected;
  same : (other : ℕ) → l.first ≤ other → other ≤ l.port
      → accepts_port l.items other ≡ accepted_from l.rejected l.items l.i other;
}
