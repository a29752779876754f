use Rattle.vote_kinds.proofs.ClearVotes.{vote_kinds_are_clear}
use Rattle.vote_kinds.proofs.laws.vote_kinds_are_clear.Goals as goal

pub returns : goal.returns
returns c = vote_kinds_are_clear
