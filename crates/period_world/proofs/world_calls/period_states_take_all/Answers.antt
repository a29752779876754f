use Rattle.period_world.proofs.Taking as law
use Rattle.period_world.proofs.world_calls.period_states_take_all.Goals as goal

pub returns : goal.returns
returns c = law.took
