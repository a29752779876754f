use Rattle.std.{proofs.Common.{◌≡◌, ◌++◌}, specs.Prelude.filter}
use Rattle.field_votes.specs.{VersionSets.texts_in, Versions.is_listed_by_most}
use Rattle.field_votes.proofs.version_set.VersionSet.copies_by_most.Given as goal

abbrev pub invariant-loop-version : goal.invariant-loop-version
invariant-loop-version l =
    l.copies.items ++ filter (is_listed_by_most l.sets) (texts_in l.version-iterator)
    ≡ filter (is_listed_by_most l.fn.sets) l.fn.self
