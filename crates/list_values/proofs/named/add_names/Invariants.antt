use Rattle.std.{proofs.Common.{◌≡◌, take}, specs.List.fold}
use Rattle.dir_values.specs.FlagSets.{with_flag}
use Rattle.list_values.specs.Maps.{names_of}
use Rattle.list_values.proofs.named.add_names.Given as goal

abbrev pub invariant-loop-item : goal.invariant-loop-item
invariant-loop-item g l = l.names ≡ fold with_flag l.fn.names (take l.item-index (names_of l.items))
