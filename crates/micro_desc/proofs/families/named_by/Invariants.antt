use Rattle.std.proofs.Common.{◌≡◌, map, take}
use Rattle.descriptor_frame.specs.declared.certificate.EdCert.{EdCert}
use Rattle.micro_desc.specs.Makings.{family_id}
use Rattle.micro_desc.proofs.families.named_by.Given as goal

abbrev pub invariant-certs : goal.invariant-certs
invariant-certs l = l.names.items ≡ map (λ (cert : EdCert). family_id cert.signer) (take l.cert-index l.certs)
