use Rattle.std.proofs.Common.{◌≡◌, drop}
use Rattle.checked_sigs.specs.Asking.{micro_digest}
use Rattle.checked_sigs.proofs.over.micro_digest.Given as goal

abbrev pub invariant-digests : goal.invariant-digests
invariant-digests l = micro_digest (drop l.digest-index l.digests) ≡ micro_digest l.fn.digests
