use Rattle.value_laws.proofs.ParamsAgain.{params_again, params_fill, params_right}
use Rattle.value_laws.proofs.laws.params_are_read_again.Goals as goal

pub returns-clause-read : goal.returns-clause-read
returns-clause-read c = params_again

pub returns-clause-right : goal.returns-clause-right
returns-clause-right c = params_right

pub returns-clause-fill : goal.returns-clause-fill
returns-clause-fill c = params_fill
