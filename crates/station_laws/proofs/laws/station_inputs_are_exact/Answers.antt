use Rattle.station_laws.proofs.StationTables.{stations_are_exact}
use Rattle.station_laws.proofs.laws.station_inputs_are_exact.Goals as goal

pub returns : goal.returns
returns c = stations_are_exact
