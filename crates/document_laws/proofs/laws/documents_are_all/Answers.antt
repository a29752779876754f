use Rattle.document_laws.proofs.Exact.{documents_are_all}
use Rattle.document_laws.proofs.laws.documents_are_all.Goals as goal

pub returns : goal.returns
returns g c tables = documents_are_all tables
