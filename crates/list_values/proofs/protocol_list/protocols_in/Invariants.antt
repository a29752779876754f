use Rattle.std.{proofs.Common.{◌≡◌, length}, specs.List.fold}
use Rattle.item_terms.specs.Words.{words_of}
use Rattle.dir_values.specs.Arguments.{texts_of}
use Rattle.list_values.specs.{Masks.all_listed, Protocols.{with_protocol, as_protocols}}
use Rattle.list_values.proofs.protocol_list.protocols_in.Given as goal

abbrev pub invariant-arguments : goal.invariant-arguments
invariant-arguments l = fold with_protocol (all_listed l.map) (texts_of l.arguments) ≡ as_protocols (words_of l.fn.text)

abbrev pub decreases-arguments : goal.decreases-arguments
decreases-arguments l = length l.arguments
