use Rattle.consensus_laws.proofs.ConsensusAgain.{same_again}
use Rattle.consensus_laws.proofs.laws.consensuses_in_order_are_the_same.Goals as goal

pub returns : goal.returns
returns c = same_again
