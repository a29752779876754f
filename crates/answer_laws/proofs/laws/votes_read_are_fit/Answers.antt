use Rattle.answer_laws.proofs.VotesRead.{read_fit}
use Rattle.answer_laws.proofs.laws.votes_read_are_fit.Goals as goal

pub returns : goal.returns
returns c = read_fit
