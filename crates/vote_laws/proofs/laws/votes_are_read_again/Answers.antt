use Rattle.vote_laws.proofs.VoteAgain.{votes_again}
use Rattle.vote_laws.proofs.laws.votes_are_read_again.Goals as goal

pub returns : goal.returns
returns c = votes_again
