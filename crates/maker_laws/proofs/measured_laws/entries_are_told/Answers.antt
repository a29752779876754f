use Rattle.maker_laws.proofs.Telling.{entries_told}
use Rattle.maker_laws.proofs.measured_laws.entries_are_told.Goals as goal

pub returns : goal.returns
returns c = entries_told
