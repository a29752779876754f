use Rattle.flag_rules.proofs.TableFacts.{rejected_have_none}
use Rattle.flag_rules.proofs.laws.rejected_relays_have_no_flags.Goals as goal

pub returns : goal.returns
returns c = rejected_have_none
