use Rattle.vote_terms.proofs.HeldLaw as law
use Rattle.vote_terms.proofs.laws.ranks_agree.Goals as goal

pub returns : goal.returns
returns c = law.ranks_agree
