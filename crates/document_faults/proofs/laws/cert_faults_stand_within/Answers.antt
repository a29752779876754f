use Rattle.document_faults.proofs.DocumentFaults.{cert_within}
use Rattle.document_faults.proofs.laws.cert_faults_stand_within.Goals as goal

pub returns : goal.returns
returns c = cert_within
