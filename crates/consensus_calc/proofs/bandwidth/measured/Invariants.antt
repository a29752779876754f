use Rattle.std.proofs.Common.{◌≡◌, take}
use Rattle.compute_terms.specs.Bandwidths.{measured_values}
use Rattle.consensus_calc.proofs.bandwidth.measured.Given as goal

abbrev pub invariant-entries : goal.invariant-entries
invariant-entries l = l.values.items ≡ measured_values (take l.entry-index l.entries)
