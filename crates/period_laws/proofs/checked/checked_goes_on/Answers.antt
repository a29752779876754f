use Rattle.period_laws.proofs.Verified as law
use Rattle.period_laws.proofs.checked.checked_goes_on.Goals as goal

pub returns : goal.returns
returns c = law.goes_on
