use Rattle.grammar_laws.proofs.ItemsAgain.{items_again}
use Rattle.grammar_laws.proofs.laws.reads_again.Goals as goal

pub returns : goal.returns
returns c = items_again
