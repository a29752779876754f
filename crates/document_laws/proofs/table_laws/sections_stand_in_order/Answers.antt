use Rattle.document_laws.proofs.Ordering.{stand_in_order}
use Rattle.document_laws.proofs.table_laws.sections_stand_in_order.Goals as goal

pub returns : goal.returns
returns g c tables = stand_in_order tables
