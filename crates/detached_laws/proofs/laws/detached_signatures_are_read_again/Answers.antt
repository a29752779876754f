use Rattle.detached_laws.proofs.DetachedAgain.{detached_again}
use Rattle.detached_laws.proofs.laws.detached_signatures_are_read_again.Goals as goal

pub returns : goal.returns
returns c = detached_again
