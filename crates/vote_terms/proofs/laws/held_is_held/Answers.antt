use Rattle.vote_terms.proofs.HeldLaw as law
use Rattle.vote_terms.proofs.laws.held_is_held.Goals as goal

pub returns : goal.returns
returns c = law.held_law
