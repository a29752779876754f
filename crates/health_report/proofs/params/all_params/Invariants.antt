use Rattle.std.{proofs.Common.{◌≡◌, drop}, specs.List.{fold, flat_map}}
use Rattle.dir_values.specs.FlagSets.{with_flag, as_set}
use Rattle.health_report.specs.Lines.{param_names}
use Rattle.health_report.proofs.params.all_params.Given as goal

abbrev pub invariant-votes : goal.invariant-votes
invariant-votes l =
    fold with_flag l.names (flat_map param_names (drop l.number l.votes.votes))
    ≡ as_set (flat_map param_names l.votes.votes)
