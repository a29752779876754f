use Rattle.period_world.proofs.Leading.{leads_so}
use Rattle.period_world.proofs.calling.take_among.Goals as goal

pub returns-clause-leads : goal.returns-clause-leads
returns-clause-leads g c = leads_so _ _ _ _ _ c.take.result c.take.ensures.step
