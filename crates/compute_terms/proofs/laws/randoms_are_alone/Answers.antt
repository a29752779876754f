use Rattle.compute_terms.proofs.AgreedRandoms as law
use Rattle.compute_terms.proofs.laws.randoms_are_alone.Goals as goal

pub returns : goal.returns
returns c = law.alone
