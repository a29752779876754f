use Rattle.std.proofs.Common.{◌≡◌, length}
use Rattle.list_values.specs.Protocols.{wrong_protocol}
use Rattle.list_values.proofs.protocol_list.wrong_among.Given as goal

abbrev pub invariant-arguments : goal.invariant-arguments
invariant-arguments l = wrong_protocol l.arguments ≡ wrong_protocol l.fn.arguments

abbrev pub decreases-arguments : goal.decreases-arguments
decreases-arguments l = length l.arguments
