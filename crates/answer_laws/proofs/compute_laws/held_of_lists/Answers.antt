use Rattle.answer_laws.proofs.Joined as law
use Rattle.answer_laws.proofs.compute_laws.held_of_lists.Goals as goal

pub returns : goal.returns
returns c = law.joined
