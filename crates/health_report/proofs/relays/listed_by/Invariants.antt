use Rattle.std.{proofs.Common.{◌≡◌, drop}, specs.List.fold}
use Rattle.dir_values.specs.FlagSets.{with_flag, as_set}
use Rattle.health_report.specs.Reports.{router_identities}
use Rattle.health_report.proofs.relays.listed_by.Given as goal

abbrev pub invariant-routers : goal.invariant-routers
invariant-routers l =
    fold with_flag l.set (router_identities (drop l.router-index l.routers)) ≡ as_set (router_identities l.routers)
