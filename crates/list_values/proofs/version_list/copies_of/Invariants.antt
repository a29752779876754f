use Rattle.std.proofs.Common.{◌≡◌, ◌++◌, drop}
use Rattle.list_values.proofs.version_list.copies_of.Given as goal

abbrev pub invariant-loop-text : goal.invariant-loop-text
invariant-loop-text l = l.copies.items ++ drop l.text-index l.texts ≡ l.fn.texts
