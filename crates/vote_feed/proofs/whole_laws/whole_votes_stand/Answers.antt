use Rattle.vote_feed.proofs.WholeVotes.{whole_stand}
use Rattle.vote_feed.proofs.whole_laws.whole_votes_stand.Goals as goal

pub returns : goal.returns
returns c = whole_stand
