use Rattle.std.proofs.Common.{rules}
use Rattle.gate_workers.proofs.running.any_fault.Goals as goal

pub returns-then-has_failed : goal.returns-then-has_failed
returns-then-has_failed g c = (
  c.workers.worker-index,
  c.worker-item.result,
  search rules,
  search rules,
  search rules,
)
