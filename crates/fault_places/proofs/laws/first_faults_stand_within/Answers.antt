use Rattle.fault_places.proofs.FirstFaults.{first_faults}
use Rattle.fault_places.proofs.laws.first_faults_stand_within.Goals as goal

pub returns : goal.returns
returns g c tables = first_faults tables
