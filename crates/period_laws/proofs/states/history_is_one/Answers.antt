use Rattle.period_laws.proofs.Leading as law
use Rattle.period_laws.proofs.states.history_is_one.Goals as goal

pub returns : goal.returns
returns c = law.is_one
