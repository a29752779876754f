use Rattle.vote_feed.proofs.WholeVotes.{whole_stay}
use Rattle.vote_feed.proofs.whole_laws.whole_votes_stay.Goals as goal

pub returns : goal.returns
returns c = whole_stay
