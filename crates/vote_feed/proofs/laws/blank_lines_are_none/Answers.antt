use Rattle.vote_feed.proofs.BlankVotes.{blank_are_none}
use Rattle.vote_feed.proofs.laws.blank_lines_are_none.Goals as goal

pub returns : goal.returns
returns c = blank_are_none
