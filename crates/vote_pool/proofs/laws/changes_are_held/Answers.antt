use Rattle.vote_pool.proofs.Greatest.{changes_are_held}
use Rattle.vote_pool.proofs.laws.changes_are_held.Goals as goal

pub returns : goal.returns
returns c = changes_are_held
