use Rattle.std.proofs.Common.{◌≡◌, false, replicate}
use Rattle.consensus_calc.proofs.marks.unmark.Given as goal

abbrev pub invariant-marks : goal.invariant-marks
invariant-marks l = l.marks.items ≡ replicate l._i false
