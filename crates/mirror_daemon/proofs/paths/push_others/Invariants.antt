use Rattle.std.proofs.Common.{◌≡◌, ◌++◌, drop}
use Rattle.mirror_daemon.specs.Paths.{behind_hyphens}
use Rattle.mirror_daemon.proofs.paths.push_others.Given as goal

abbrev pub invariant-digests : goal.invariant-digests
invariant-digests l = l.path.items ++ behind_hyphens (drop l.digest-index l.digests) ≡ l.fn.path.items ++ behind_hyphens l.digests
