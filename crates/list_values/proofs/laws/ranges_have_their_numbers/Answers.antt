use Rattle.list_values.proofs.RangeLaws.{ranges_have}
use Rattle.list_values.proofs.laws.ranges_have_their_numbers.Goals as goal

pub returns : goal.returns
returns c = ranges_have
