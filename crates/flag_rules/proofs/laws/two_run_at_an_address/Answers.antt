use Rattle.flag_rules.proofs.SameAddress.{two_run}
use Rattle.flag_rules.proofs.laws.two_run_at_an_address.Goals as goal

pub returns : goal.returns
returns c = two_run
