use Rattle.period_laws.proofs.Accepted as law
use Rattle.period_laws.proofs.states.held_are_held.Goals as goal

pub returns : goal.returns
returns c = law.are_held
