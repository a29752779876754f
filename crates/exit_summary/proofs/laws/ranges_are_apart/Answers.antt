use Rattle.exit_summary.proofs.RangeLaws.{ranges_apart}
use Rattle.exit_summary.proofs.laws.ranges_are_apart.Goals as goal

pub returns : goal.returns
returns c = ranges_apart
