-- When a certificate holds (dir-spec, "Creating key certificates").
use Rattle.std.specs.Prelude.{◌≡◌, ◌⊎◌, ℕ, ◌<◌, ◌≤◌, Bool, true, false, List}
use Rattle.sha1.specs.Sha1.{sha1}
use Rattle.dir_values.specs.{Digests.same_identity, declared.digest.Fingerprint.Fingerprint}
use Rattle.key_port.specs.{Answers.{Relation, Rules, Steps}, declared.verifier.VerifyAnswer.VerifyAnswer}
use Rattle.key_port.specs.declared.verifier.KeyKind.TheVariants as kind
use Rattle.key_port.specs.declared.verifier.VerifyAnswer.TheVariants as verified
use Rattle.authority_certs.specs.declared.{cert.Cert.Cert, checking.CertAnswer.CertAnswer}
use Rattle.authority_certs.specs.declared.checking.CertAnswer.TheVariants as answer

-- the identity that a key makes: the SHA-1 of its bytes
abbrev pub identity_of : List ℕ → Fingerprint
identity_of key = record { 0 = sha1 key }

-- whether the certificate's fingerprint is that of its identity key
abbrev pub names_its_key : Cert → Bool
names_its_key cert = same_identity cert.fingerprint (identity_of cert.identity_key)

-- whether a relation has the identity key's signature over the certificate
abbrev pub certifies : Relation → Cert → Bool
certifies has cert = has kind.Identity cert.identity_key cert.covered.0 cert.certification

-- whether a relation has the signing key's signature over the digest of the identity key
abbrev pub crosscertifies : Relation → Cert → Bool
crosscertifies has cert = has kind.Signing cert.signing_key (sha1 cert.identity_key) cert.crosscert

-- the certificate is that of its identity key, and has not expired at a moment
pub record IsCurrent (at : ℕ) (cert : Cert) : Type 0 where
  pub fingerprint : names_its_key cert ≡ true
  pub expires : at < cert.expires

-- The certificate holds at a moment: it is current, and both its signatures may be accepted.
pub record IsCertified (rules : Rules) (at : ℕ) (cert : Cert) : Type 0 where
  pub current : IsCurrent at cert
  pub certification : certifies rules.may_accept cert ≡ true
  pub crosscert : crosscertifies rules.may_accept cert ≡ true

-- what checking answers: that it holds, or the first clause that fails. Where the verifier failed it was asked.
abbrev pub Checks : Rules → ℕ → Cert → CertAnswer → Type 0
Checks rules at cert answer.Checked = IsCertified rules at cert
Checks rules at cert answer.WrongFingerprint = names_its_key cert ≡ false
Checks rules at cert (answer.Expired moment expires) =
    (names_its_key cert ≡ true) × (cert.expires ≤ at) × (moment ≡ at) × (expires ≡ cert.expires)
Checks rules at cert answer.BadCertification = IsCurrent at cert × (certifies rules.may_refuse cert ≡ true)
Checks rules at cert answer.BadCrosscert =
    IsCurrent at cert × (certifies rules.may_accept cert ≡ true) × (crosscertifies rules.may_refuse cert ≡ true)
Checks rules at cert answer.VerifierFault = IsCurrent at cert

-- ---- what the verifier is asked

-- the verifier is asked of the identity key's signature over the certificate, and answers so
abbrev pub AsksCertification : {V : Type 0} → Steps V → Cert → V → VerifyAnswer → V → Type 0
AsksCertification steps cert old result new =
    steps old kind.Identity cert.identity_key cert.covered.0 cert.certification result new

-- it is asked of the signing key's signature over the digest of the identity key, and answers so
abbrev pub AsksCrosscert : {V : Type 0} → Steps V → Cert → V → VerifyAnswer → V → Type 0
AsksCrosscert steps cert old result new =
    steps old kind.Signing cert.signing_key (sha1 cert.identity_key) cert.crosscert result new

-- it accepts the first of both, is asked of the second, and answers so
abbrev pub AsksBoth : {V : Type 0} → Steps V → Cert → V → VerifyAnswer → V → Type 0
AsksBoth {V} steps cert old result new =
    (between : V) × AsksCertification steps cert old verified.Yes between × AsksCrosscert steps cert between result new

-- All that the verifier is asked: of a certificate that is not its identity key's, or has expired, nothing; else its
-- certification, and where that was accepted its crosscert.
abbrev pub Asks : {V : Type 0} → Steps V → Cert → CertAnswer → V → V → Type 0
Asks steps cert answer.Checked old new = AsksBoth steps cert old verified.Yes new
Asks steps cert answer.WrongFingerprint old new = new ≡ old
Asks steps cert (answer.Expired moment expires) old new = new ≡ old
Asks steps cert answer.BadCertification old new = AsksCertification steps cert old verified.No new
Asks steps cert answer.BadCrosscert old new = AsksBoth steps cert old verified.No new
Asks steps cert answer.VerifierFault old new =
    AsksCertification steps cert old verified.Fault new ⊎ AsksBoth steps cert old verified.Fault new
