use Rattle.vote_laws.proofs.MadeAgain.{made_again}
use Rattle.vote_laws.proofs.made_laws.made_votes_are_read.Goals as goal

pub returns : goal.returns
returns c = made_again
