use Rattle.station_laws.proofs.InputFaults.{station_within}
use Rattle.station_laws.proofs.station_places.station_faults_stand_within.Goals as goal

pub returns : goal.returns
returns c = station_within
