use Rattle.period_core.proofs.Nexts.{next_value, next_later}
use Rattle.period_core.proofs.next.next_period.Goals as goal

pub returns-clause-value : goal.returns-clause-value
returns-clause-value c = next_value _ _ _ _ c.interval-interval.ensures.schedule c.next_valid_after.ensures

pub returns-clause-later : goal.returns-clause-later
returns-clause-later c = next_later _ _ _ _ c.interval-interval.ensures.schedule c.next_valid_after.ensures
