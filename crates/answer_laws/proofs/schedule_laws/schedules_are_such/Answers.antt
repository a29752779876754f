use Rattle.answer_laws.proofs.Sound.{schedules_such}
use Rattle.answer_laws.proofs.schedule_laws.schedules_are_such.Goals as goal

pub returns : goal.returns
returns c = schedules_such
