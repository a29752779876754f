use Rattle.std.proofs.Common.{◌≤◌}
use Rattle.gate_workers.proofs.worker.serve_gate.Given as goal

abbrev pub invariant-loop : goal.invariant-loop
invariant-loop g l = record {
  can : (goal.iterator-loop g).can_next l.iterator';
  finite : (goal.iterator-loop g).is_finite l.iterator';
  may_work : g.K.Clerk.may_work l.clerk;
  comes : (before : g.row.K.Denot) → g.K.Clerk.comes_to before l.fn.clerk → g.K.Clerk.comes_to before l.clerk;
  faults : g.G.Gate.faults l.fn.gate ≤ g.G.Gate.faults l.gate;
}
