use Rattle.vote_parts.proofs.VoteFaults.{fault_of_vote}
use Rattle.vote_parts.proofs.fault_laws.vote_faults_stand_within.Goals as goal

pub returns : goal.returns
returns c = fault_of_vote
