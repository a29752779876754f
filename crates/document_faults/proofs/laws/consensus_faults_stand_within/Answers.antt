use Rattle.document_faults.proofs.DocumentFaults.{consensus_within}
use Rattle.document_faults.proofs.laws.consensus_faults_stand_within.Goals as goal

pub returns : goal.returns
returns c = consensus_within
