use Rattle.std.proofs.Common.{◌≡◌, ◌++◌, drop}
use Rattle.mirror_core.specs.Signers.{keys_of}
use Rattle.mirror_core.proofs.cert.keys_of.Given as goal

abbrev pub invariant-certs : goal.invariant-certs
invariant-certs l = l.keys.items ++ keys_of (drop l.kept-index l.certs) ≡ keys_of l.fn.certs
