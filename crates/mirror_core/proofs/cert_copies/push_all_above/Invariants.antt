use Rattle.std.proofs.Common.{◌≡◌, ◌++◌, drop}
use Rattle.mirror_core.specs.Lending.{above}
use Rattle.mirror_core.proofs.cert_copies.push_all_above.Given as goal

abbrev pub invariant-certs : goal.invariant-certs
invariant-certs l = l.out.items ++ above l.authority (drop l.kept-index l.certs) ≡ l.fn.out.items ++ above l.fn.authority l.fn.certs
