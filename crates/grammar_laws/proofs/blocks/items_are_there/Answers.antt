use Rattle.grammar_laws.proofs.BlockFronts.{items_are_there}
use Rattle.grammar_laws.proofs.blocks.items_are_there.Goals as goal

pub returns : goal.returns
returns c = items_are_there
