use Rattle.vote_parts.proofs.OwnVotes.{own_read}
use Rattle.vote_parts.proofs.laws.own_votes_are_read.Goals as goal

pub returns : goal.returns
returns c = own_read
