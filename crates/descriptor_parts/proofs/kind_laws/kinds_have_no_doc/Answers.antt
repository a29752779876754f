use Rattle.descriptor_parts.proofs.NoDocKinds.{kinds_have_no_doc}
use Rattle.descriptor_parts.proofs.kind_laws.kinds_have_no_doc.Goals as goal

pub returns : goal.returns
returns c = kinds_have_no_doc
