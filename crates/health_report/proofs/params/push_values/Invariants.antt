use Rattle.std.{proofs.Common.{◌≡◌, ◌++◌, drop}, specs.List.flat_map}
use Rattle.health_report.specs.Lines.{vote_value}
use Rattle.health_report.proofs.params.push_values.Given as goal

abbrev pub invariant-votes : goal.invariant-votes
invariant-votes l =
    l.out.items ++ flat_map (vote_value l.name) (drop l.number l.votes.votes)
    ≡ l.fn.out.items ++ flat_map (vote_value l.name) l.votes.votes
