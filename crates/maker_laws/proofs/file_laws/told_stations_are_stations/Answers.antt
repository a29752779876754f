use Rattle.maker_laws.proofs.FileVotes.{told_stations}
use Rattle.maker_laws.proofs.file_laws.told_stations_are_stations.Goals as goal

pub returns : goal.returns
returns c = told_stations
