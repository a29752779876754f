use Rattle.period_laws.proofs.Leading as law
use Rattle.period_laws.proofs.states.front_counts.Goals as goal

pub returns : goal.returns
returns c = law.counts
