use Rattle.std.proofs.Common.{◌≡◌, ◌++◌, drop, map}
use Rattle.exit_summary.specs.Policies.{rejects}
use Rattle.exit_summary.proofs.nets.counts_of.Given as goal

abbrev pub invariant-loop-item : goal.invariant-loop-item
invariant-loop-item l = l.counts.items ++ map rejects (drop l.item-index l.items) ≡ map rejects l.items
