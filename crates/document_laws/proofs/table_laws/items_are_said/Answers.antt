use Rattle.document_laws.proofs.Taking.{are_said}
use Rattle.document_laws.proofs.table_laws.items_are_said.Goals as goal

pub returns : goal.returns
returns g c tables = are_said tables
