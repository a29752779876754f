use Rattle.consensus_ranges.proofs.ConsensusRange.{consensus_in_range}
use Rattle.consensus_ranges.proofs.laws.consensuses_read_are_in_range.Goals as goal

pub returns : goal.returns
returns c = consensus_in_range
