use Rattle.period_laws.proofs.Counted as law
use Rattle.period_laws.proofs.checked.signers_are_counted.Goals as goal

pub returns : goal.returns
returns c = law.are_counted
