use Rattle.compute_terms.proofs.AgreedRandoms as law
use Rattle.compute_terms.proofs.laws.agreed_randoms_are_listed.Goals as goal

pub returns : goal.returns
returns c = law.listed
