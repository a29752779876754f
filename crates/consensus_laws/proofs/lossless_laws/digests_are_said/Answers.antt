use Rattle.consensus_laws.proofs.StandingDigests.{digests_said}
use Rattle.consensus_laws.proofs.lossless_laws.digests_are_said.Goals as goal

pub returns : goal.returns
returns c = digests_said
