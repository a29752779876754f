use Rattle.consensus_laws.proofs.ListTexts.{lists_whole}
use Rattle.consensus_laws.proofs.lossless_laws.lists_are_read_whole.Goals as goal

pub returns : goal.returns
returns c = lists_whole
