use Rattle.period_laws.proofs.Leading as law
use Rattle.period_laws.proofs.states.front_of_history.Goals as goal

pub returns : goal.returns
returns c = law.front
