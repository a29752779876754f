use Rattle.period_laws.proofs.Standing as law
use Rattle.period_laws.proofs.states.texts_stand.Goals as goal

pub returns : goal.returns
returns c = law.stand
