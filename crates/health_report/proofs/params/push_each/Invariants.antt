use Rattle.std.{proofs.Common.{◌≡◌, ◌++◌, drop}, specs.List.flat_map}
use Rattle.health_report.specs.Lines.{param_line}
use Rattle.health_report.proofs.params.push_each.Given as goal

abbrev pub invariant-names : goal.invariant-names
invariant-names l =
    l.out.items ++ flat_map (param_line l.votes.votes) (drop l.name-index l.names)
    ≡ l.fn.out.items ++ flat_map (param_line l.votes.votes) l.names
