use Rattle.computed_laws.proofs.ComputedItems.{again_within}
use Rattle.computed_laws.proofs.laws.consensuses_within_limits_are_read_again.Goals as goal

pub returns : goal.returns
returns c = again_within
