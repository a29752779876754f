use Rattle.consensus_laws.proofs.Calendar.{moments_whole}
use Rattle.consensus_laws.proofs.lossless_laws.moments_are_not_capped.Goals as goal

pub returns : goal.returns
returns c = moments_whole
