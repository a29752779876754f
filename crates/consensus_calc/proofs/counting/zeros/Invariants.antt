use Rattle.std.proofs.Common.{◌≡◌, replicate}
use Rattle.consensus_calc.proofs.counting.zeros.Given as goal

abbrev pub invariant-counts : goal.invariant-counts
invariant-counts l = l.counts.items ≡ replicate l._i 0
