use Rattle.descriptor_parts.proofs.ClearKinds.{kinds_are_exact}
use Rattle.descriptor_parts.proofs.kind_laws.kinds_are_exact.Goals as goal

pub returns : goal.returns
returns c = kinds_are_exact
