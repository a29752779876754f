use Rattle.period_laws.proofs.Currents as law
use Rattle.period_laws.proofs.checked.currents_were_published.Goals as goal

pub returns : goal.returns
returns c = law.were_published
