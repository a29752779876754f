use Rattle.vote_feed.proofs.WholeVotes.{faulty_stand}
use Rattle.vote_feed.proofs.whole_laws.faulty_votes_stand.Goals as goal

pub returns : goal.returns
returns c = faulty_stand
