use Rattle.vote_pool.proofs.Greatest.{replaced_are_older}
use Rattle.vote_pool.proofs.laws.replaced_are_older.Goals as goal

pub returns : goal.returns
returns c = replaced_are_older
