use Rattle.list_values.proofs.MapLaws.{values_found}
use Rattle.list_values.proofs.laws.values_are_found.Goals as goal

pub returns : goal.returns
returns g c = values_found
