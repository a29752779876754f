use Rattle.answer_laws.proofs.Phases.{ascend}
use Rattle.answer_laws.proofs.schedule_laws.moments_ascend.Goals as goal

pub returns : goal.returns
returns c = ascend
