use Rattle.vote_feed.proofs.EndedVotes.{votes_end}
use Rattle.vote_feed.proofs.laws.votes_end.Goals as goal

pub returns : goal.returns
returns c = votes_end
