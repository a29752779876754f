use Rattle.period_laws.proofs.Accepted as law
use Rattle.period_laws.proofs.states.period_states_agree.Goals as goal

pub returns : goal.returns
returns c = law.one_text
