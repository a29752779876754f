use Rattle.period_world.proofs.Starts.{starts_so}
use Rattle.period_world.proofs.starting.begin.Goals as goal

pub returns-clause-start : goal.returns-clause-start
returns-clause-start g c =
    starts_so _ _ _ _ _ c.start.result c.len.ensures.roster c.interval.ensures.schedule c.start.ensures
