use Rattle.std.proofs.Common.{◌≡◌, length}
use Rattle.relay_entries.specs.Lines.{with_arguments, no_bandwidths}
use Rattle.relay_entries.proofs.lines.with_arguments.Given as goal

abbrev pub invariant-arguments : goal.invariant-arguments
invariant-arguments l = with_arguments l.said l.arguments ≡ with_arguments no_bandwidths l.fn.arguments

abbrev pub decreases-arguments : goal.decreases-arguments
decreases-arguments l = length l.arguments
