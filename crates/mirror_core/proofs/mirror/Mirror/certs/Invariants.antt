use Rattle.std.{proofs.Common.{◌≡◌, ◌++◌, drop}, specs.List.flat_map}
use Rattle.mirror_core.specs.{Answers.certs_text, States.KeptCert}
use Rattle.mirror_core.proofs.mirror.Mirror.certs.Given as goal

abbrev pub invariant-certs : goal.invariant-certs
invariant-certs g l =
    l.out.items ++ flat_map (λ (kept : KeptCert). kept.bytes) (drop l.kept-index l.self.certs) ≡ certs_text l.fn.self
