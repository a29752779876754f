-- What checking a vote answers.
use Rattle.std.specs.Prelude.{◌≡◌, ◌⊎◌, ℕ, ◌≤◌, true, false, List}
use Rattle.dir_values.specs.{Digests.same_identity, declared.digest.Fingerprint.Fingerprint}
use Rattle.key_port.specs.{Answers.{Rules, Steps}, declared.verifier.VerifyAnswer.VerifyAnswer}
use Rattle.key_port.specs.declared.verifier.KeyKind.TheVariants as kind
use Rattle.key_port.specs.declared.verifier.VerifyAnswer.TheVariants as verified
use Rattle.authority_certs.specs.Checks.{Asks, AsksBoth, IsCertified, IsCurrent, certifies, crosscertifies}
use Rattle.authority_certs.specs.declared.checking.CertAnswer.{CertAnswer}
use Rattle.authority_certs.specs.declared.checking.CertAnswer.TheVariants as answer
use Rattle.vote_terms.specs.{Votes.ReadVote, Acceptable.{IsAsked, Refuses, has_fingerprint, names_signer}}
use Rattle.vote_terms.specs.Acceptable.{signed_digest, signs}
use Rattle.vote_terms.specs.declared.word.VoteWord.TheVariants as word
use Rattle.vote_doc.specs.declared.check.VoteRefusal.{VoteRefusal, TheVariants.{WrongPeriod, UnknownAuthority, Cert}}
use Rattle.vote_doc.specs.declared.check.VoteRefusal.TheVariants.{BadSignature, VerifierFault}

-- the first clause that the vote fails is the one that the certificate's answer names
abbrev pub RefusedByCert : Rules → List Fingerprint → ℕ → ReadVote → CertAnswer → Type 0
RefusedByCert rules roster period vote answer.Checked = ⊥
RefusedByCert rules roster period vote answer.WrongFingerprint = Refuses rules roster period vote word.Fingerprint
RefusedByCert rules roster period vote (answer.Expired at expires) =
    Refuses rules roster period vote word.Expired × (at ≡ period) × (expires ≡ vote.says.certificate.expires)
RefusedByCert rules roster period vote answer.BadCertification = Refuses rules roster period vote word.Certification
RefusedByCert rules roster period vote answer.BadCrosscert = Refuses rules roster period vote word.Crosscert
RefusedByCert rules roster period vote answer.VerifierFault = ⊥

-- the first clause that the vote fails is the one that the refusal names; where the verifier failed it was asked
abbrev pub RefusedBy : Rules → List Fingerprint → ℕ → ReadVote → VoteRefusal → Type 0
RefusedBy rules roster period vote (WrongPeriod valid_after) =
    Refuses rules roster period vote word.ValidAfter × (valid_after ≡ vote.says.valid_after)
RefusedBy rules roster period vote UnknownAuthority = Refuses rules roster period vote word.Authority
RefusedBy rules roster period vote (Cert answer) = RefusedByCert rules roster period vote answer
RefusedBy rules roster period vote BadSignature = Refuses rules roster period vote word.Signature
RefusedBy rules roster period vote VerifierFault = IsAsked roster period vote

-- ---- what the verifier is asked

-- the verifier is asked of the signing key's signature over the vote where it names its signer, and answers so; else it is not
-- asked: it stays as it was
abbrev pub AsksSignature : {V : Type 0} → Steps V → ReadVote → V → VerifyAnswer → V → Type 0
AsksSignature steps vote old result new =
    (names_signer vote ≡ false → new ≡ old)
    × (names_signer vote ≡ true
    → steps old kind.Signing vote.says.certificate.signing_key (signed_digest vote) vote.says.signature.signature result new)

-- it accepts both signatures of the certificate, and then answers so of the vote's
abbrev pub AsksAll : {V : Type 0} → Steps V → ReadVote → V → VerifyAnswer → V → Type 0
AsksAll {V} steps vote old result new =
    (between : V) × AsksBoth steps vote.says.certificate old verified.Yes between × AsksSignature steps vote between result new

-- All that the verifier is asked of a vote that is refused: where it is of another period or of no member of the roster, nothing;
-- else of its certificate, and where that holds of its signature.
abbrev pub AsksOfRefused : {V : Type 0} → Steps V → ReadVote → VoteRefusal → V → V → Type 0
AsksOfRefused steps vote (WrongPeriod valid_after) old new = new ≡ old
AsksOfRefused steps vote UnknownAuthority old new = new ≡ old
AsksOfRefused steps vote (Cert answer) old new = Asks steps vote.says.certificate answer old new
AsksOfRefused steps vote BadSignature old new = AsksAll steps vote old verified.No new
AsksOfRefused steps vote VerifierFault old new =
    Asks steps vote.says.certificate answer.VerifierFault old new ⊎ AsksAll steps vote old verified.Fault new

-- ---- what the private functions say

-- the certificate is the vote's authority's
abbrev pub IsItsOwn : ReadVote → Type 0
IsItsOwn vote = same_identity vote.says.certificate.fingerprint vote.says.identity ≡ true

-- whether the vote's certificate is its authority's and holds at a moment, or the first clause that fails
abbrev pub ChecksCert : Rules → ℕ → ReadVote → CertAnswer → Type 0
ChecksCert rules at vote answer.Checked = IsItsOwn vote × IsCertified rules at vote.says.certificate
ChecksCert rules at vote answer.WrongFingerprint = has_fingerprint vote ≡ false
ChecksCert rules at vote (answer.Expired moment expires) =
    (has_fingerprint vote ≡ true) × (vote.says.certificate.expires ≤ at) × (moment ≡ at) × (expires ≡ vote.says.certificate.expires)
ChecksCert rules at vote answer.BadCertification =
    IsItsOwn vote × IsCurrent at vote.says.certificate × (certifies rules.may_refuse vote.says.certificate ≡ true)
ChecksCert rules at vote answer.BadCrosscert =
    IsItsOwn vote × IsCurrent at vote.says.certificate × (certifies rules.may_accept vote.says.certificate ≡ true)
    × (crosscertifies rules.may_refuse vote.says.certificate ≡ true)
ChecksCert rules at vote answer.VerifierFault = IsItsOwn vote × IsCurrent at vote.says.certificate

-- whether the vote's signature names its signer and may be accepted
abbrev pub ChecksSignature : Rules → ReadVote → VerifyAnswer → Type 0
ChecksSignature rules vote verified.Yes = (names_signer vote ≡ true) × (signs rules.may_accept vote ≡ true)
ChecksSignature rules vote verified.No = (names_signer vote ≡ false) ⊎ (signs rules.may_refuse vote ≡ true)
ChecksSignature rules vote verified.Fault = Unit {0}
