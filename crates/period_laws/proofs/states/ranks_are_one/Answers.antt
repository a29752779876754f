use Rattle.period_laws.proofs.Accepted as law
use Rattle.period_laws.proofs.states.ranks_are_one.Goals as goal

pub returns : goal.returns
returns c = law.one_rank
