use Rattle.vote_terms.proofs.HeldOrder as order
use Rattle.vote_terms.proofs.laws.held_ascend.Goals as goal

pub returns : goal.returns
returns c = order.held_ascend
