use Rattle.flag_rules.proofs.TableFacts.{sybils_alone}
use Rattle.flag_rules.proofs.laws.sybils_have_no_other_flag.Goals as goal

pub returns : goal.returns
returns c = sybils_alone
