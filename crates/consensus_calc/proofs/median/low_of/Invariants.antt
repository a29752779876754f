use Rattle.std.{proofs.Common.{◌≡◌, drop}, specs.List.find}
use Rattle.count_terms.specs.Counts.{middle, stands_at}
use Rattle.consensus_calc.proofs.median.low_of.Given as goal

abbrev pub invariant-values : goal.invariant-values
invariant-values l =
    find (stands_at (middle l.values) l.values) (drop l.value-index l.values)
    ≡ find (stands_at (middle l.values) l.values) l.values
