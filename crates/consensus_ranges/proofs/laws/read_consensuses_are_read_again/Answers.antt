use Rattle.consensus_ranges.proofs.ConsensusRange.{read_again}
use Rattle.consensus_ranges.proofs.laws.read_consensuses_are_read_again.Goals as goal

pub returns : goal.returns
returns c = read_again
