use Rattle.std.proofs.Common.{rules}
use Rattle.consensus_calc.proofs.Medians.{median_of_none}
use Rattle.consensus_calc.proofs.timing.low_median.Goals as goal

pub returns-then-is_empty : goal.returns-then-is_empty
returns-then-is_empty c = median_of_none c.args.values.now.items (search rules)
