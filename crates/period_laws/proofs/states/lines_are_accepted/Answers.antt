use Rattle.period_laws.proofs.LinesTold as law
use Rattle.period_laws.proofs.states.lines_are_accepted.Goals as goal

pub returns : goal.returns
returns c = law.accepted
