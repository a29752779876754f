use Rattle.consensus_calc.{specs.Timings.most, proofs.Medians.low_median-within}
use Rattle.consensus_calc.proofs.timing.median.Goals as goal

pub returns-clause-within : goal.returns-clause-within
returns-clause-within c =
    rw c.low_median.ensures (low_median-within (most c.args.timing) c.in_ok-values.values.items c.in_ok-values.ensures.within)
