use Rattle.std.{proofs.Common.{◌≡◌, drop}, specs.List.fold}
use Rattle.dir_values.specs.FlagSets.{with_flag, as_set}
use Rattle.field_votes.specs.Flags.{listed_flags}
use Rattle.field_votes.proofs.flag_lists.listed_flags.Given as goal

abbrev pub invariant-lists : goal.invariant-lists
invariant-lists l = fold with_flag l.set (listed_flags (drop l.list-index l.lists)) ≡ as_set (listed_flags l.lists)
