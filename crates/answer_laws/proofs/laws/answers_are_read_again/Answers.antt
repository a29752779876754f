use Rattle.answer_laws.proofs.TextsAgain.{answers_again}
use Rattle.answer_laws.proofs.laws.answers_are_read_again.Goals as goal

pub returns : goal.returns
returns c = answers_again c.votes_of_inputs_are_fit.ensures
