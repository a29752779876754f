use Rattle.maker_laws.proofs.StationKept.{station_in_range}
use Rattle.maker_laws.proofs.station_range_laws.station_inputs_read_are_in_range.Goals as goal

pub returns : goal.returns
returns c = station_in_range
