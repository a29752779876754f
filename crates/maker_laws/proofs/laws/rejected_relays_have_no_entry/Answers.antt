use Rattle.maker_laws.proofs.RulingLaws.{rejected_have_none}
use Rattle.maker_laws.proofs.laws.rejected_relays_have_no_entry.Goals as goal

pub returns : goal.returns
returns c = rejected_have_none
