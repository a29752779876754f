use Rattle.vote_feed.proofs.EndedVotes.{open_are_none}
use Rattle.vote_feed.proofs.laws.open_votes_are_none.Goals as goal

pub returns : goal.returns
returns c = open_are_none
