use Rattle.serve_command.proofs.NotRefused.{not_refused}
use Rattle.serve_command.proofs.laws.such_inputs_are_not_refused.Goals as goal

pub returns : goal.returns
returns c = not_refused
