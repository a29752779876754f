use Rattle.detached_laws.proofs.DetachedAgain.{detached_same_again}
use Rattle.detached_laws.proofs.laws.detached_signatures_in_order_are_the_same.Goals as goal

pub returns : goal.returns
returns c = detached_same_again
