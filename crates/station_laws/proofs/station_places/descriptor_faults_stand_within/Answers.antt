use Rattle.station_laws.proofs.InputFaults.{descriptor_within}
use Rattle.station_laws.proofs.station_places.descriptor_faults_stand_within.Goals as goal

pub returns : goal.returns
returns c = descriptor_within
