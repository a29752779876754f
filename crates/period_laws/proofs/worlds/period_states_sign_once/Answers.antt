use Rattle.period_laws.proofs.Honest as law
use Rattle.period_laws.proofs.worlds.period_states_sign_once.Goals as goal

pub returns : goal.returns
returns c = law.sign_once
