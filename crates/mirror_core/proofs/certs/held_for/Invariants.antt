use Rattle.std.proofs.Common.{◌≡◌, drop}
use Rattle.mirror_core.specs.Answers.{cert_for}
use Rattle.mirror_core.proofs.certs.held_for.Given as goal

abbrev pub invariant-certs : goal.invariant-certs
invariant-certs l = cert_for (drop l.kept-index l.certs) l.authority ≡ cert_for l.fn.certs l.fn.authority
