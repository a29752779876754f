use Rattle.answer_laws.proofs.Phases.{between}
use Rattle.answer_laws.proofs.schedule_laws.phases_are_between.Goals as goal

pub returns : goal.returns
returns c = between
