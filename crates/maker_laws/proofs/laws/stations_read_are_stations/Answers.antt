use Rattle.maker_laws.proofs.MadeRead.{stations_read}
use Rattle.maker_laws.proofs.laws.stations_read_are_stations.Goals as goal

pub returns : goal.returns
returns c = stations_read
