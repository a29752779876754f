use Rattle.flag_rules.proofs.TableFacts.{all_agree}
use Rattle.flag_rules.proofs.laws.flags_agree.Goals as goal

pub returns : goal.returns
returns c = all_agree
