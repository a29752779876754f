use Rattle.std.proofs.Common.{◌≤◌, arith}
use Rattle.period_core.proofs.Standings.{begun_stands}
use Rattle.period_core.proofs.state.PeriodState.begin.Goals as goal

pub invariant_of-self : goal.invariant_of-self
invariant_of-self g c = (
  rw (
    c.clear.ensures,
    c.clear-2.ensures.items,
    c.clear-3.ensures.items,
    c.begin.ensures.front,
    c.begin.ensures.base,
    c.begin.ensures.changes,
  )
      (begun_stands _ c.in-Some.valid_after c.self.invariant.0 c.in-Some.ensures.later.0 c.in-Some.ensures.later.1),
  rw c.clear.ensures c.self.invariant.1,
  omega (arith, c.clear-2.ensures.capacity, c.self.invariant.2),
  omega (arith, c.clear-3.ensures.capacity, c.self.invariant.3),
  omega (arith, c.begin.ensures.capacity, c.self.invariant.4),
)
