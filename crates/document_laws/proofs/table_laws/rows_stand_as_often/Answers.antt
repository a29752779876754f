use Rattle.document_laws.proofs.Counting.{stand_as_often}
use Rattle.document_laws.proofs.table_laws.rows_stand_as_often.Goals as goal

pub returns : goal.returns
returns g c tables = stand_as_often tables
