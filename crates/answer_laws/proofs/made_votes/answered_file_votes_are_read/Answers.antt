use Rattle.answer_laws.proofs.MadeVotes.{answered_file_votes}
use Rattle.answer_laws.proofs.made_votes.answered_file_votes_are_read.Goals as goal

pub returns : goal.returns
returns g c = answered_file_votes g.N.Signer.may_give g.N.Signer.steps
