use Rattle.range_laws.proofs.VoteRead.{vote_in_range}
use Rattle.range_laws.proofs.laws.votes_read_are_in_range.Goals as goal

pub returns : goal.returns
returns c = vote_in_range
