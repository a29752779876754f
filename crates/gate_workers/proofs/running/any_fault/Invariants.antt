use Rattle.std.{proofs.Common.{◌<◌, ℕ}, specs.Prelude.{◌≢◌, slice_index_or}}
use Rattle.gate_workers.specs.declared.worker.End.TheVariants as ends
use Rattle.gate_workers.proofs.running.any_fault.Given as goal

abbrev pub invariant-workers : goal.invariant-workers
invariant-workers g l = (k : ℕ) (d : _) → k < l.worker-index → (slice_index_or l.workers k d).end ≢ ends.Fault
