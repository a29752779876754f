use Rattle.maker_laws.proofs.FileTelling.{relays_told}
use Rattle.maker_laws.proofs.measured_laws.told_relays_are_told.Goals as goal

pub returns : goal.returns
returns c = relays_told
