use Rattle.consensus_laws.proofs.ConsensusAgain.{consensuses_again}
use Rattle.consensus_laws.proofs.laws.consensuses_are_read_again.Goals as goal

pub returns : goal.returns
returns c = consensuses_again
