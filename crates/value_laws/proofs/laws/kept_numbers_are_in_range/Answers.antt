use Rattle.value_laws.proofs.NumbersAlone.{kept_in_range}
use Rattle.value_laws.proofs.laws.kept_numbers_are_in_range.Goals as goal

pub returns : goal.returns
returns c = kept_in_range
