use Rattle.answer_laws.proofs.Order as law
use Rattle.answer_laws.proofs.compute_laws.ranks_are_ordered.Goals as goal

pub returns : goal.returns
returns c = law.ordered
