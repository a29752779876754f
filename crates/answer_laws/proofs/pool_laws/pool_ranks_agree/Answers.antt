use Rattle.answer_laws.proofs.HeldNewest.{pool_ranks_agree}
use Rattle.answer_laws.proofs.pool_laws.pool_ranks_agree.Goals as goal

pub returns : goal.returns
returns c = pool_ranks_agree
