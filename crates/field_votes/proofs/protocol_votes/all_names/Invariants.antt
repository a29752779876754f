use Rattle.std.{proofs.Common.{◌≡◌, drop}, specs.List.{fold, flat_map}}
use Rattle.dir_values.specs.FlagSets.{with_flag}
use Rattle.list_values.specs.Maps.{names_of}
use Rattle.field_votes.specs.Lists.{all_names}
use Rattle.field_votes.proofs.protocol_votes.all_names.Given as goal

abbrev pub invariant-lists : goal.invariant-lists
invariant-lists l = fold with_flag l.names (flat_map names_of (drop l.list-index l.lists)) ≡ all_names l.fn.lists
