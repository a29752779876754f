use Rattle.answer_laws.proofs.VotesRead.{in_range_fit}
use Rattle.answer_laws.proofs.laws.votes_in_range_are_fit.Goals as goal

pub returns : goal.returns
returns c = in_range_fit
