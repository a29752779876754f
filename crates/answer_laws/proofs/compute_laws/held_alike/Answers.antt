use Rattle.answer_laws.proofs.Alike as law
use Rattle.answer_laws.proofs.compute_laws.held_alike.Goals as goal

pub returns : goal.returns
returns c = law.alike
