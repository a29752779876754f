use Rattle.flag_rules.proofs.TableFacts.{rules_one_way}
use Rattle.flag_rules.proofs.laws.a_list_rules_one_way.Goals as goal

pub returns : goal.returns
returns c = rules_one_way
