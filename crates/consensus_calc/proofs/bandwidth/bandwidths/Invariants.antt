use Rattle.std.proofs.Common.{◌≡◌, take}
use Rattle.compute_terms.specs.Bandwidths.{bandwidth_values}
use Rattle.consensus_calc.proofs.bandwidth.bandwidths.Given as goal

abbrev pub invariant-entries : goal.invariant-entries
invariant-entries l = l.values.items ≡ bandwidth_values (take l.entry-index l.entries)
