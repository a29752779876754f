use Rattle.station_commands.proofs.NotRefused.{not_refused}
use Rattle.station_commands.proofs.laws.such_inputs_are_not_refused.Goals as goal

pub returns : goal.returns
returns g c = not_refused g.N.Signer.may_give g.N.Signer.steps
