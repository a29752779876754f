use Rattle.vote_pool.proofs.Greatest.{others_stay}
use Rattle.vote_pool.proofs.laws.others_stay.Goals as goal

pub returns : goal.returns
returns c = others_stay
