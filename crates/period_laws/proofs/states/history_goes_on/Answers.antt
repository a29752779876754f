use Rattle.period_laws.proofs.Leading as law
use Rattle.period_laws.proofs.states.history_goes_on.Goals as goal

pub returns : goal.returns
returns c = law.on
