-- When a descriptor holds (dir-spec, "Server descriptor format"; cert-spec).
use Rattle.std.specs.{Prelude.{◌≡◌, ◌⊎◌, ℕ, Bool, true, false, ◌&&◌, ◌||◌, List}, declared.option.Option.Option}
use Rattle.std.specs.declared.option.Option.TheVariants.{Some, None}
use Rattle.dir_values.specs.{Digests.same_identity, declared.digest.Fingerprint.Fingerprint}
use Rattle.descriptor_frame.specs.declared.certificate.EdCert.{EdCert}
use Rattle.key_port.specs.{Answers.{Relation, Rules, Steps}, declared.verifier.VerifyAnswer.VerifyAnswer}
use Rattle.key_port.specs.declared.verifier.KeyKind.TheVariants as kind
use Rattle.key_port.specs.declared.verifier.VerifyAnswer.TheVariants as answer
use Rattle.descriptor_doc.specs.declared.checking.DescriptorRefusal.{DescriptorRefusal}
use Rattle.descriptor_doc.specs.declared.descriptor.{Descriptor.Descriptor, EdSignature.EdSignature}
use Rattle.descriptor_doc.specs.{Certified.{AsksCertificate, certifies, has_expired, is_signer}, Families.AreOfFamilies}
use Rattle.descriptor_doc.specs.{Families.{AsksFamilies, are_families_refused}, Reading.IsRead}
use Rattle.descriptor_doc.specs.declared.checking.DescriptorRefusal.TheVariants as refusal

-- ---- who signed it

-- whether a fingerprint, where there is one, is this identity
abbrev pub is_identity : Fingerprint → Option Fingerprint → Bool
is_identity identity None = true
is_identity identity (Some fingerprint) = same_identity fingerprint identity

-- whether the certificate and the Ed25519 signature stand together or not at all
abbrev pub both_or_neither : Option EdCert → Option EdSignature → Bool
both_or_neither None None = true
both_or_neither (Some certificate) (Some signature) = true
both_or_neither _ _ = false

-- whether the master key, where there is one, is the certificate's signer
abbrev pub is_master : Option (List ℕ) → Option EdCert → Bool
is_master None certificate = true
is_master (Some key) certificate = is_signer key certificate

-- whether the descriptor names the identities that it has
abbrev pub names_itself : Descriptor → Bool
names_itself d =
    is_identity d.identity d.fingerprint
    && (both_or_neither d.identity_ed25519 d.router_sig_ed25519 && is_master d.master_key_ed25519 d.identity_ed25519)

-- ---- its signatures

-- whether a relation has the RSA signature of the descriptor's digest by its signing key
abbrev pub signs : Relation → Descriptor → Bool
signs has d = has kind.Signing d.signing_key d.digest.0 d.router_signature

-- whether a relation has the certified key's signature of a descriptor
abbrev pub ed_signs : Relation → EdCert → EdSignature → Bool
ed_signs has certificate signature = has kind.Ed25519 certificate.key signature.covered.0 signature.signature

-- the Ed25519 signatures hold: the certificate has not expired when the descriptor was published, and both of them may be
-- accepted
pub record AreEdSigned (rules : Rules) (published : ℕ) (certificate : EdCert) (signature : EdSignature) : Type 0 where
  pub expires : has_expired published certificate ≡ false
  pub certified : certifies rules.may_accept certificate ≡ true
  pub signed : ed_signs rules.may_accept certificate signature ≡ true

-- the same of those that there are
abbrev pub IsEdSigned : Rules → ℕ → Option EdCert → Option EdSignature → Type 0
IsEdSigned rules published (Some certificate) (Some signature) = AreEdSigned rules published certificate signature
IsEdSigned rules published _ _ = Unit {0}

-- The descriptor holds: it names the identities that it has, and all its signatures and those of its families may be
-- accepted.
pub record IsVerified (rules : Rules) (d : Descriptor) : Type 0 where
  pub names_itself : names_itself d ≡ true
  pub signed : signs rules.may_accept d ≡ true
  pub ed_signed : IsEdSigned rules d.published d.identity_ed25519 d.router_sig_ed25519
  pub families : AreOfFamilies rules d.published d.identity_ed25519 d.family_certs

-- what is kept of a descriptor that was checked: it was read, and it holds
pub record IsChecked (rules : Rules) (d : Descriptor) : Type 0 where
  pub read : IsRead d
  pub verified : IsVerified rules d

-- ---- why it is refused

-- whether Ed25519 signatures may be refused: the certificate has expired, or its signature may be refused; or it may be
-- accepted, and the descriptor's may be refused
abbrev pub are_refused : Rules → ℕ → EdCert → EdSignature → Bool
are_refused rules published certificate signature =
    has_expired published certificate
    || (certifies rules.may_refuse certificate
    || (certifies rules.may_accept certificate && ed_signs rules.may_refuse certificate signature))

-- the same of those that there are
abbrev pub is_ed_refused : Rules → ℕ → Option EdCert → Option EdSignature → Bool
is_ed_refused rules published (Some certificate) (Some signature) = are_refused rules published certificate signature
is_ed_refused rules published _ _ = false

-- what a verifier answers of Ed25519 signatures, where one that has expired is refused
abbrev pub AnswersEd : Rules → ℕ → EdCert → EdSignature → VerifyAnswer → Type 0
AnswersEd rules published certificate signature answer.Yes = AreEdSigned rules published certificate signature
AnswersEd rules published certificate signature answer.No = are_refused rules published certificate signature ≡ true
AnswersEd rules published certificate signature answer.Fault = Unit {0}

-- the same of those that there are
abbrev pub AnswersEdIf : Rules → ℕ → Option EdCert → Option EdSignature → VerifyAnswer → Type 0
AnswersEdIf rules published certificate signature answer.Yes = IsEdSigned rules published certificate signature
AnswersEdIf rules published certificate signature answer.No =
    is_ed_refused rules published certificate signature ≡ true
AnswersEdIf rules published certificate signature answer.Fault = Unit {0}

-- The Ed25519 signatures may be refused; or they hold, and the families may be refused.
abbrev pub IsEdRefused : Rules → Descriptor → Type 0
IsEdRefused rules d =
    (is_ed_refused rules d.published d.identity_ed25519 d.router_sig_ed25519 ≡ true)
    ⊎ (IsEdSigned rules d.published d.identity_ed25519 d.router_sig_ed25519
    × (are_families_refused rules d.published d.identity_ed25519 d.family_certs ≡ true))

-- what a verifier answers of the Ed25519 signatures and the families of a descriptor
abbrev pub AnswersBehind : Rules → Descriptor → VerifyAnswer → Type 0
AnswersBehind rules d answer.Yes =
    IsEdSigned rules d.published d.identity_ed25519 d.router_sig_ed25519
    × AreOfFamilies rules d.published d.identity_ed25519 d.family_certs
AnswersBehind rules d answer.No = IsEdRefused rules d
AnswersBehind rules d answer.Fault = Unit {0}

-- the first clause fails that a refusal names. Where the verifier failed it was asked.
abbrev pub RefusedBy : Rules → Descriptor → DescriptorRefusal → Type 0
RefusedBy rules d refusal.IdentityMismatch = names_itself d ≡ false
RefusedBy rules d refusal.BadSignature = (names_itself d ≡ true) × (signs rules.may_refuse d ≡ true)
RefusedBy rules d refusal.BadEdSignature =
    (names_itself d ≡ true) × (signs rules.may_accept d ≡ true) × IsEdRefused rules d
RefusedBy rules d refusal.VerifierFault = names_itself d ≡ true

-- ---- what the verifier is asked

-- the verifier is asked of the signature of the descriptor's digest by its signing key, and answers so
abbrev pub AsksSignature : {V : Type 0} → Steps V → Descriptor → V → VerifyAnswer → V → Type 0
AsksSignature steps d old result new = steps old kind.Signing d.signing_key d.digest.0 d.router_signature result new

-- it accepts that one, is asked of the certified key's signature of a descriptor, and answers so
abbrev pub AsksBothEd : {V : Type 0} → Steps V → EdCert → EdSignature → V → VerifyAnswer → V → Type 0
AsksBothEd {V} steps certificate signature old result new =
    (between : V) × AsksCertificate steps certificate old answer.Yes between
    × steps between kind.Ed25519 certificate.key signature.covered.0 signature.signature result new

-- it is asked of both in turn, up to the first that it does not accept, and answers so
abbrev pub AsksInTurn : {V : Type 0} → Steps V → EdCert → EdSignature → V → VerifyAnswer → V → Type 0
AsksInTurn steps certificate signature old answer.Yes new = AsksBothEd steps certificate signature old answer.Yes new
AsksInTurn steps certificate signature old answer.No new =
    AsksCertificate steps certificate old answer.No new ⊎ AsksBothEd steps certificate signature old answer.No new
AsksInTurn steps certificate signature old answer.Fault new =
    AsksCertificate steps certificate old answer.Fault new ⊎ AsksBothEd steps certificate signature old answer.Fault new

-- of a certificate that has expired it is not asked: it stays as it was
abbrev pub AsksEd : {V : Type 0} → Steps V → ℕ → EdCert → EdSignature → V → VerifyAnswer → V → Type 0
AsksEd steps published certificate signature old result new =
    (has_expired published certificate ≡ true → new ≡ old)
    × (has_expired published certificate ≡ false → AsksInTurn steps certificate signature old result new)

-- the same of those that there are
abbrev pub AsksEdIf : {V : Type 0} → Steps V → ℕ → Option EdCert → Option EdSignature → V → VerifyAnswer → V → Type 0
AsksEdIf steps published (Some certificate) (Some signature) old result new =
    AsksEd steps published certificate signature old result new
AsksEdIf steps published _ _ old result new = new ≡ old

-- it accepts the Ed25519 signatures that there are, and then answers so of the families
abbrev pub AsksEdAndFamilies : {V : Type 0} → Steps V → Descriptor → V → VerifyAnswer → V → Type 0
AsksEdAndFamilies {V} steps d old result new =
    (between : V) × AsksEdIf steps d.published d.identity_ed25519 d.router_sig_ed25519 old answer.Yes between
    × AsksFamilies steps d.published d.identity_ed25519 d.family_certs between result new

-- it is asked of both in turn, up to the first that it does not accept, and answers so
abbrev pub AsksBehind : {V : Type 0} → Steps V → Descriptor → V → VerifyAnswer → V → Type 0
AsksBehind steps d old answer.Yes new = AsksEdAndFamilies steps d old answer.Yes new
AsksBehind steps d old answer.No new =
    AsksEdIf steps d.published d.identity_ed25519 d.router_sig_ed25519 old answer.No new
    ⊎ AsksEdAndFamilies steps d old answer.No new
AsksBehind steps d old answer.Fault new =
    AsksEdIf steps d.published d.identity_ed25519 d.router_sig_ed25519 old answer.Fault new
    ⊎ AsksEdAndFamilies steps d old answer.Fault new

-- it accepts the descriptor's signature, and then answers so of those of Ed25519 and of its families
abbrev pub AsksAll : {V : Type 0} → Steps V → Descriptor → V → VerifyAnswer → V → Type 0
AsksAll {V} steps d old result new =
    (between : V) × AsksSignature steps d old answer.Yes between × AsksBehind steps d between result new

-- All that it is asked of a descriptor that is refused: of one that names another identity nothing; else of the descriptor's
-- signature, and where it accepted that of those of Ed25519 and of its families.
abbrev pub AsksOfRefused : {V : Type 0} → Steps V → Descriptor → DescriptorRefusal → V → V → Type 0
AsksOfRefused steps d refusal.IdentityMismatch old new = new ≡ old
AsksOfRefused steps d refusal.BadSignature old new = AsksSignature steps d old answer.No new
AsksOfRefused steps d refusal.BadEdSignature old new = AsksAll steps d old answer.No new
AsksOfRefused steps d refusal.VerifierFault old new =
    AsksSignature steps d old answer.Fault new ⊎ AsksAll steps d old answer.Fault new
