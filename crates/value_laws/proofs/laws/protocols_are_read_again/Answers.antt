use Rattle.value_laws.proofs.ProtocolsAgain.{protocols_again, protocols_fill, protocols_right}
use Rattle.value_laws.proofs.laws.protocols_are_read_again.Goals as goal

pub returns-clause-read : goal.returns-clause-read
returns-clause-read c = protocols_again

pub returns-clause-right : goal.returns-clause-right
returns-clause-right c = protocols_right

pub returns-clause-fill : goal.returns-clause-fill
returns-clause-fill c = protocols_fill
