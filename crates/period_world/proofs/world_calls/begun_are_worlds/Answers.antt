use Rattle.period_world.proofs.Beginning as law
use Rattle.period_world.proofs.world_calls.begun_are_worlds.Goals as goal

pub returns : goal.returns
returns c = law.begun
