use Rattle.answer_laws.proofs.VotesRead.{inputs_fit}
use Rattle.answer_laws.proofs.laws.votes_of_inputs_are_fit.Goals as goal

pub returns : goal.returns
returns c = inputs_fit c.inputs_are_votes.ensures
