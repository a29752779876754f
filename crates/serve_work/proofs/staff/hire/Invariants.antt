use Rattle.std.proofs.Common.{◌≡◌, ◌≤◌, ◌+◌, ◌++◌, All, length, map, vec_len, vec_capacity}
use Rattle.gate_workers.specs.declared.worker.End.TheVariants.{Working}
use Rattle.serve_work.proofs.staff.hire.Given as goal

abbrev pub invariant-gates : goal.invariant-gates
invariant-gates g l = record {
  gates : map (λ w. w.gate) l.workers.items ++ l.gates.items ≡ l.fn.gates.items;
  passes : map (λ w. w.clerk.pass) l.workers.items ++ l.passes.items ≡ l.fn.passes.items;
  verifiers : map (λ w. w.clerk.verifier) l.workers.items ++ l.verifiers.items ≡ l.fn.verifiers.items;
  clocks_left : length l.clocks.items ≡ length l.gates.items;
  verifiers_left : length l.verifiers.items ≡ length l.gates.items;
  passes_left : length l.passes.items ≡ length l.gates.items;
  hired : All
      (λ w. (w.end ≡ Working) × (w.clerk.board.now ≡ l.board) × (w.clerk.hook.now ≡ l.hook)
      × (w.clerk.station.now ≡ l.station)) l.workers.items;
  count : length l.workers.items + length l.gates.items ≡ length l.fn.gates.items;
  room : length l.fn.gates.items ≤ vec_capacity l.workers;
  gate_room : vec_capacity l.gates ≡ vec_capacity l.fn.gates;
  clock_room : vec_capacity l.clocks ≡ vec_capacity l.fn.clocks;
  verifier_room : vec_capacity l.verifiers ≡ vec_capacity l.fn.verifiers;
  pass_room : vec_capacity l.passes ≡ vec_capacity l.fn.passes;
}

abbrev pub decreases-gates : goal.decreases-gates
decreases-gates g l = vec_len l.gates
