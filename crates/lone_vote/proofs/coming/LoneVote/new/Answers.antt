use Rattle.vote_feed.proofs.Votes.{nothing_known}
use Rattle.lone_vote.proofs.coming.LoneVote.new.Goals as goal

pub returns : goal.returns
returns c = (c.in_ok-new.ensures, nothing_known)
