use Rattle.answer_laws.proofs.HeldNewest.{newest_are_held}
use Rattle.answer_laws.proofs.pool_laws.newest_are_held.Goals as goal

pub returns : goal.returns
returns c = newest_are_held
