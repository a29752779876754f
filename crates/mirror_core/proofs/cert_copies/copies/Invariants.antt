use Rattle.std.proofs.Common.{◌≡◌, ◌++◌, drop}
use Rattle.mirror_core.proofs.cert_copies.copies.Given as goal

abbrev pub invariant-certs : goal.invariant-certs
invariant-certs l = l.out.items ++ drop l.kept-index l.certs ≡ l.fn.certs
