use Rattle.grammar_laws.proofs.Calls.{write_items}
use Rattle.grammar_laws.proofs.laws.writers_write_items.Goals as goal

pub returns : goal.returns
returns c = write_items
