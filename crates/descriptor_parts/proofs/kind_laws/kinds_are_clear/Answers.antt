use Rattle.descriptor_parts.proofs.ClearKinds.{kinds_are_clear}
use Rattle.descriptor_parts.proofs.kind_laws.kinds_are_clear.Goals as goal

pub returns : goal.returns
returns c = kinds_are_clear
