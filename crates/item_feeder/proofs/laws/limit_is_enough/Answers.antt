use Rattle.item_feeder.proofs.BehindLimit.{limit_is_enough}
use Rattle.item_feeder.proofs.laws.limit_is_enough.Goals as goal

pub returns : goal.returns
returns c = limit_is_enough
