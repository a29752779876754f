use Rattle.answer_laws.proofs.MadeVotes.{answered_votes}
use Rattle.answer_laws.proofs.made_votes.answered_votes_are_read.Goals as goal

pub returns : goal.returns
returns g c = answered_votes g.N.Signer.may_give g.N.Signer.steps
