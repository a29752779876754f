use Rattle.answer_laws.proofs.Standing as law
use Rattle.answer_laws.proofs.laws.inputs_are_votes.Goals as goal

pub returns : goal.returns
returns c = law.inputs_are_votes
