use Rattle.computed_laws.proofs.ComputedFacts.{texts_again}
use Rattle.computed_laws.proofs.laws.computed_texts_are_read_again.Goals as goal

pub returns : goal.returns
returns c = texts_again
