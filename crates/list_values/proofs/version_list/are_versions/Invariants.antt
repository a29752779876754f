use Rattle.std.{proofs.Common.{◌≡◌, length}, specs.List.list_all}
use Rattle.list_values.specs.VersionLists.{is_version, are_versions}
use Rattle.list_values.proofs.version_list.are_versions.Given as goal

abbrev pub invariant-parts : goal.invariant-parts
invariant-parts l = list_all is_version l.parts ≡ are_versions l.fn.text

abbrev pub decreases-parts : goal.decreases-parts
decreases-parts l = length l.parts
