use Rattle.period_laws.proofs.Verified as law
use Rattle.period_laws.proofs.checked.history_runs.Goals as goal

pub returns : goal.returns
returns c = law.runs
