use Rattle.std.proofs.Common.{◌≡◌, length}
use Rattle.relay_entries.specs.Lines.{digest_among}
use Rattle.relay_entries.proofs.lines.digest_among.Given as goal

abbrev pub invariant-arguments : goal.invariant-arguments
invariant-arguments l = digest_among l.arguments ≡ digest_among l.fn.arguments

abbrev pub decreases-arguments : goal.decreases-arguments
decreases-arguments l = length l.arguments
