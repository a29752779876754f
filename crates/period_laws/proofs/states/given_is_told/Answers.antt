use Rattle.period_laws.proofs.Given as law
use Rattle.period_laws.proofs.states.given_is_told.Goals as goal

pub returns : goal.returns
returns c = law.told
