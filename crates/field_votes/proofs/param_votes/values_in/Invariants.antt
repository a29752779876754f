use Rattle.std.proofs.Common.{◌≡◌, ◌++◌, drop}
use Rattle.field_votes.specs.Lists.{values_in}
use Rattle.field_votes.proofs.param_votes.values_in.Given as goal

abbrev pub invariant-lists : goal.invariant-lists
invariant-lists l = l.values.items ++ values_in (drop l.list-index l.lists) l.name ≡ values_in l.fn.lists l.fn.name
