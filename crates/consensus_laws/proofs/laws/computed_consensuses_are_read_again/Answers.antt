use Rattle.consensus_laws.proofs.SignedParts.{computed_again}
use Rattle.consensus_laws.proofs.laws.computed_consensuses_are_read_again.Goals as goal

pub returns : goal.returns
returns c = computed_again
