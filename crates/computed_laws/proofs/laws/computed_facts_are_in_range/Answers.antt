use Rattle.computed_laws.proofs.ComputedFacts.{facts_in_range}
use Rattle.computed_laws.proofs.laws.computed_facts_are_in_range.Goals as goal

pub returns : goal.returns
returns c = facts_in_range
