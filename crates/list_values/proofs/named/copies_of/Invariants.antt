use Rattle.std.proofs.Common.{◌≡◌, ◌++◌, drop}
use Rattle.list_values.proofs.named.copies_of.Given as goal

abbrev pub invariant-loop-item : goal.invariant-loop-item
invariant-loop-item g l = l.copies.items ++ drop l.item-index l.items ≡ l.fn.items
