use Rattle.std.proofs.Common.{◌≡◌, ◌++◌, drop, map}
use Rattle.dir_values.specs.declared.digest.Digest2.{Digest2}
use Rattle.mirror_core.proofs.consensus.digests_of.Given as goal

abbrev pub invariant-found : goal.invariant-found
invariant-found l =
    map (λ (digest : Digest2). digest.0) l.digests.items ++ drop l.bytes-index l.found ≡ l.fn.found
