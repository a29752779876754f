use Rattle.consensus_laws.proofs.ReadDigests.{digests_hex}
use Rattle.consensus_laws.proofs.lossless_laws.digests_are_hex.Goals as goal

pub returns : goal.returns
returns c = digests_hex
