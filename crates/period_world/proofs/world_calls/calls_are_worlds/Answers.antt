use Rattle.period_world.proofs.Reaching as law
use Rattle.period_world.proofs.world_calls.calls_are_worlds.Goals as goal

pub returns : goal.returns
returns c = law.reached
