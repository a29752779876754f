use Rattle.std.{proofs.Common.{◌≡◌, drop}, specs.List.fold}
use Rattle.field_votes.specs.Versions.{with_version}
use Rattle.field_votes.proofs.version_set.VersionSet.insert_all.Given as goal

abbrev pub invariant-versions : goal.invariant-versions
invariant-versions l = fold with_version l.self (drop l.i l.list) ≡ fold with_version l.fn.self l.fn.list
