use Rattle.computed_laws.proofs.ComputedFacts.{readable_in_range}
use Rattle.computed_laws.proofs.laws.readable_votes_are_in_range.Goals as goal

pub returns : goal.returns
returns c = readable_in_range
