use Rattle.consensus_laws.proofs.WholeMethods.{methods_whole}
use Rattle.consensus_laws.proofs.lossless_laws.methods_are_not_capped.Goals as goal

pub returns : goal.returns
returns c = methods_whole
