use Rattle.grammar_laws.proofs.BlockReading.{no_others_are}
use Rattle.grammar_laws.proofs.blocks.no_others_are.Goals as goal

pub returns : goal.returns
returns c = no_others_are
