use Rattle.bandwidth_laws.proofs.KeysAndValues.{keys_stand}
use Rattle.bandwidth_laws.proofs.laws.keys_and_values_stand.Goals as goal

pub returns : goal.returns
returns c = keys_stand
