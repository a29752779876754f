use Rattle.std.proofs.Common.{◌≡◌, ◌++◌, drop, map}
use Rattle.field_votes.specs.Versions.{in_order, lists_there}
use Rattle.field_votes.proofs.version_votes.sets_of.Given as goal

abbrev pub invariant-lists : goal.invariant-lists
invariant-lists l =
    l.sets.items ++ map in_order (lists_there (drop l.list-index l.lists)) ≡ map in_order (lists_there l.fn.lists)
