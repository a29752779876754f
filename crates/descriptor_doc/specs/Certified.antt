-- An Ed25519 certificate at the moment at which a descriptor was published (dir-spec, "Server descriptor format"; cert-spec).
use Rattle.std.specs.{Prelude.{ℕ, ◌*◌, nat_le, Bool, false, List}, declared.option.Option.{Option, TheVariants.Some}}
use Rattle.std.specs.{declared.option.Option.TheVariants.None, Str.bytes_eq}
use Rattle.descriptor_frame.specs.declared.certificate.EdCert.{EdCert}
use Rattle.key_port.specs.{Answers.{Relation, Steps}, declared.verifier.VerifyAnswer.VerifyAnswer}
use Rattle.key_port.specs.declared.verifier.KeyKind.TheVariants as kind

-- whether a certificate's signer is this key
abbrev pub is_signer : List ℕ → Option EdCert → Bool
is_signer key None = false
is_signer key (Some certificate) = bytes_eq certificate.signer key

-- whether a certificate's hours have passed when a descriptor was published
abbrev pub has_expired : ℕ → EdCert → Bool
has_expired published certificate = nat_le (certificate.expires_hours * 3600) published

-- whether a relation has the signer's signature of a certificate
abbrev pub certifies : Relation → EdCert → Bool
certifies has certificate = has kind.Ed25519 certificate.signer certificate.covered certificate.signature

-- it is asked of the signer's signature of a certificate, and answers so
abbrev pub AsksCertificate : {V : Type 0} → Steps V → EdCert → V → VerifyAnswer → V → Type 0
AsksCertificate steps certificate old result new =
    steps old kind.Ed25519 certificate.signer certificate.covered certificate.signature result new
