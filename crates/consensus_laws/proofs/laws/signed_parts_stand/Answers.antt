use Rattle.consensus_laws.proofs.SignedParts.{parts_stand}
use Rattle.consensus_laws.proofs.laws.signed_parts_stand.Goals as goal

pub returns : goal.returns
returns c = parts_stand
