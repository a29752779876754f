use Rattle.exit_summary.specs.Policies.{AreNets}
use Rattle.low_checks.proofs.policies.odd_ports.Given as goal

abbrev pub invariant-loop-i : goal.invariant-loop-i
invariant-loop-i l = AreNets l.items.items
