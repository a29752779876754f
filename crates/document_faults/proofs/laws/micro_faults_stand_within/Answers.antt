use Rattle.document_faults.proofs.DocumentFaults.{micro_within}
use Rattle.document_faults.proofs.laws.micro_faults_stand_within.Goals as goal

pub returns : goal.returns
returns c = micro_within
