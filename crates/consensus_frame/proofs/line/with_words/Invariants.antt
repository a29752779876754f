use Rattle.std.proofs.Common.{◌≡◌, length}
use Rattle.consensus_frame.specs.Lines.{with_words, nothing_said}
use Rattle.consensus_frame.proofs.line.with_words.Given as goal

abbrev pub invariant-arguments : goal.invariant-arguments
invariant-arguments l = with_words l.said l.arguments ≡ with_words nothing_said l.fn.arguments

abbrev pub decreases-arguments : goal.decreases-arguments
decreases-arguments l = length l.arguments
