use Rattle.answer_laws.proofs.OneMoreHeld.{pools_ascend}
use Rattle.answer_laws.proofs.pool_laws.pools_ascend.Goals as goal

pub returns : goal.returns
returns c = pools_ascend
