use Rattle.document_laws.proofs.Reading.{documents_are_read}
use Rattle.document_laws.proofs.laws.documents_are_read.Goals as goal

pub returns : goal.returns
returns g c tables = documents_are_read tables
