use Rattle.range_laws.proofs.VoteRead.{vote_within}
use Rattle.range_laws.proofs.laws.votes_within_limits_are_in_range.Goals as goal

pub returns : goal.returns
returns c = vote_within
