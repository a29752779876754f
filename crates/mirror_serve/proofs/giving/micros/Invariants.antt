use Rattle.std.proofs.Common.{◌≡◌, take}
use Rattle.mirror_serve.specs.Given.{micros_with}
use Rattle.mirror_serve.proofs.giving.micros.Given as goal

-- the microdescriptors with the digests so far
abbrev pub invariant-digests : goal.invariant-digests
invariant-digests g l = l.out.items ≡ micros_with l.mirror (take l.digest-index l.digests)
