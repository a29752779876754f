use Rattle.period_laws.proofs.Verified as law
use Rattle.period_laws.proofs.checked.accepted_are_acceptable.Goals as goal

pub returns : goal.returns
returns c = law.are_acceptable
