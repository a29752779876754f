use Rattle.grammar_laws.proofs.ReadAgain.{read_again}
use Rattle.grammar_laws.proofs.laws.written_items_are_read.Goals as goal

pub returns : goal.returns
returns c = read_again
