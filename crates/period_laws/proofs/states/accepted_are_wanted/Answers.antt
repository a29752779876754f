use Rattle.period_laws.proofs.Accepted as law
use Rattle.period_laws.proofs.states.accepted_are_wanted.Goals as goal

pub returns : goal.returns
returns c = law.are_wanted
