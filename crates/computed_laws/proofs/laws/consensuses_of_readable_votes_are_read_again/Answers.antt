use Rattle.computed_laws.proofs.ComputedItems.{readable_again}
use Rattle.computed_laws.proofs.laws.consensuses_of_readable_votes_are_read_again.Goals as goal

pub returns : goal.returns
returns c = readable_again
