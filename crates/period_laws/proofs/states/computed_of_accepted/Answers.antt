use Rattle.period_laws.proofs.Accepted as law
use Rattle.period_laws.proofs.states.computed_of_accepted.Goals as goal

pub returns : goal.returns
returns c = law.of_accepted
