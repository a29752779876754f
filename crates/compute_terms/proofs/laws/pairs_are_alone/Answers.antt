use Rattle.compute_terms.proofs.Pairs as law
use Rattle.compute_terms.proofs.laws.pairs_are_alone.Goals as goal

pub returns : goal.returns
returns c = law.alone
