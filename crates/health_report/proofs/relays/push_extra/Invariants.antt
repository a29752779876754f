use Rattle.std.{proofs.Common.{◌≡◌, ◌++◌, drop}, specs.List.flat_map}
use Rattle.health_report.specs.Reports.{extra_line}
use Rattle.health_report.proofs.relays.push_extra.Given as goal

abbrev pub invariant-routers : goal.invariant-routers
invariant-routers l =
    l.out.items ++ flat_map (extra_line l.votes.votes) (drop l.router-index l.routers)
    ≡ l.fn.out.items ++ flat_map (extra_line l.votes.votes) l.routers
