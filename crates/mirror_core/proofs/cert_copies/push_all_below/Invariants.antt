use Rattle.std.proofs.Common.{◌≡◌, ◌++◌, drop}
use Rattle.mirror_core.specs.Lending.{below}
use Rattle.mirror_core.proofs.cert_copies.push_all_below.Given as goal

abbrev pub invariant-certs : goal.invariant-certs
invariant-certs l = l.out.items ++ below l.authority (drop l.kept-index l.certs) ≡ l.fn.out.items ++ below l.fn.authority l.fn.certs
