use Rattle.vote_parts.proofs.OwnVotes.{placed_read}
use Rattle.vote_parts.proofs.laws.placed_votes_are_read.Goals as goal

pub returns : goal.returns
returns c = placed_read
