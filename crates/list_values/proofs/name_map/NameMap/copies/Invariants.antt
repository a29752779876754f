use Rattle.std.proofs.Common.{◌≡◌, ◌++◌}
use Rattle.list_values.specs.Lending.{entries_in}
use Rattle.list_values.proofs.name_map.NameMap.copies.Given as goal

abbrev pub invariant-loop-name : goal.invariant-loop-name
invariant-loop-name g l = l.copies.items ++ entries_in l.name-iterator ≡ l.fn.self
