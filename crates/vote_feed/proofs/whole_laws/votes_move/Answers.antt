use Rattle.vote_feed.proofs.WholeVotes.{votes_same}
use Rattle.vote_feed.proofs.whole_laws.votes_move.Goals as goal

pub returns : goal.returns
returns c = votes_same
