use Rattle.station_commands.proofs.FilesNotRefused.{files_not_refused}
use Rattle.station_commands.proofs.laws.such_files_are_not_refused.Goals as goal

pub returns : goal.returns
returns g c = files_not_refused g.N.Signer.may_give g.N.Signer.steps
