use Rattle.std.{proofs.Common.{◌≡◌, drop}, specs.List.fold}
use Rattle.dir_values.specs.FlagSets.{with_flag}
use Rattle.health_report.specs.Reports.{bytes_of, members_of}
use Rattle.health_report.proofs.members.members_of.Given as goal

abbrev pub invariant-members : goal.invariant-members
invariant-members l = fold with_flag l.members (bytes_of (drop l.i l.roster)) ≡ members_of l.roster
