use Rattle.std.proofs.Common.{◌≡◌, ◌≤◌, length, map, vec_capacity}
use Rattle.serve_work.proofs.staff.dismiss.Given as goal

abbrev pub invariant-loop-worker : goal.invariant-loop-worker
invariant-loop-worker g l = record {
  gates : l.gates.items ≡ map (λ w. w.gate) l.yielded;
  passes : l.passes.items ≡ map (λ w. w.clerk.pass) l.yielded;
  verifiers : l.verifiers.items ≡ map (λ w. w.clerk.verifier) l.yielded;
  clocks : length l.clocks.items ≡ length l.yielded;
  gate_room : length l.fn.workers.items ≤ vec_capacity l.gates;
  clock_room : length l.fn.workers.items ≤ vec_capacity l.clocks;
  verifier_room : length l.fn.workers.items ≤ vec_capacity l.verifiers;
  pass_room : length l.fn.workers.items ≤ vec_capacity l.passes;
}
