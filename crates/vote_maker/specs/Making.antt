-- What making a vote answers: the text of a signed vote, or why there is none; and what the verifier and the signer
-- are asked.
use Rattle.std.specs.Prelude.{◌≡◌, ◌⊎◌, ℕ, ◌≤◌, ◌<◌, Bool, true, false, List, length, Result, Ok, Err}
use Rattle.hex.specs.Hex.{IsBytes}
use Rattle.sha1.specs.Sha1.{sha1}
use Rattle.key_port.specs.{Answers.{Relation, Rules}, Signing.{SignerSteps, signature_limit}}
use Rattle.key_port.specs.declared.signer.SignAnswer.{SignAnswer}
use Rattle.key_port.specs.declared.signer.SignAnswer.TheVariants as sign
use Rattle.key_port.specs.declared.verifier.KeyKind.TheVariants as kind
use Rattle.authority_certs.specs.{Checks.{Checks, IsCertified, IsCurrent}, declared.checking.CertAnswer.CertAnswer}
use Rattle.authority_certs.specs.declared.checking.CertAnswer.TheVariants as answer
use Rattle.flag_rules.specs.{Rules.AreAllowed, declared.{relay.RelayFacts.RelayFacts, ruling.Ruling.Ruling}}
use Rattle.vote_terms.specs.{declared.facts.VoteFacts.VoteFacts, Votes.max_vote}
use Rattle.vote_text.specs.Made.{made_signed, made_text}
use Rattle.vote_maker.specs.{declared.refusal.MakeRefusal.MakeRefusal, Made.{Basis, made, relays_in, with_signature}}
use Rattle.vote_maker.specs.declared.refusal.MakeRefusal.TheVariants as refusal

-- ---- the signature

-- the digest of a vote that is made of what it says and of the given bytes of its certificate: the SHA-1 of the text
-- that is signed
abbrev pub made_digest : VoteFacts → List ℕ → List ℕ
made_digest facts bytes = sha1 (made_signed facts bytes)

-- A signer is asked for the signature of that digest by the certificate's signing key, and answers so.
abbrev pub AsksSigner : {N : Type 0} → SignerSteps N → VoteFacts → List ℕ → N → SignAnswer → N → Type 0
AsksSigner steps facts bytes old result new =
    steps old kind.Signing facts.certificate.signing_key (made_digest facts bytes) result new

-- The signature is the one that the signer gave when it was asked, bytes that it may give.
pub record IsSigned {N : Type 0} (gives : Relation) (steps : SignerSteps N) (facts : VoteFacts)
    (bytes signature : List ℕ) (old new : N) : Type 0 where
  pub given : gives kind.Signing facts.certificate.signing_key (made_digest facts bytes) signature ≡ true
  pub sound : IsBytes signature
  pub short : length signature ≤ signature_limit
  pub asked : AsksSigner steps facts bytes old (sign.Signed signature) new

-- ---- the text

-- The text is that of a vote that says what is made of its basis under some rulings, each of which is allowed, with
-- the bytes of the station's certificate and the signature that the signer gave.
pub record IsTextOf {N : Type 0} (gives : Relation) (steps : SignerSteps N) (allows : RelayFacts → Ruling → Bool)
    (its : Basis) (text : List ℕ) (old new : N) : Type 0 where
  pub rulings : List Ruling
  pub allowed : AreAllowed allows (relays_in its) rulings
  pub signature : List ℕ
  pub signed : IsSigned gives steps (made its rulings) its.station.certificate_bytes signature old new
  pub text_is : text ≡ made_text (with_signature (made its rulings) signature) its.station.certificate_bytes

-- A vote was made: its text, no longer than a vote may be, of an authority whose certificate holds when the period
-- begins.
pub record IsMade {N : Type 0} (rules : Rules) (gives : Relation) (steps : SignerSteps N)
    (allows : RelayFacts → Ruling → Bool) (its : Basis) (text : List ℕ) (old new : N) : Type 0 where
  pub certified : IsCertified rules its.valid_after its.station.certificate
  pub text_of : IsTextOf gives steps allows its text old new
  pub fits : length text ≤ max_vote

-- ---- why there is none

-- The text would be so long, longer than a vote may be.
pub record IsTooLong {N : Type 0} (gives : Relation) (steps : SignerSteps N) (allows : RelayFacts → Ruling → Bool)
    (its : Basis) (count : ℕ) (old new : N) : Type 0 where
  pub text : List ℕ
  pub text_of : IsTextOf gives steps allows its text old new
  pub count_is : count ≡ length text
  pub above : max_vote < count

-- The signer was asked for the signature of a vote that is made of its basis under rulings that are allowed, and
-- answered so.
pub record AsksForVote {N : Type 0} (steps : SignerSteps N) (allows : RelayFacts → Ruling → Bool)
    (its : Basis) (result : SignAnswer) (old new : N) : Type 0 where
  pub rulings : List Ruling
  pub allowed : AreAllowed allows (relays_in its) rulings
  pub asked : AsksSigner steps (made its rulings) its.station.certificate_bytes old result new

-- whether an answer says that a certificate does not hold
abbrev pub fails : CertAnswer → Bool
fails answer.Checked = false
fails answer.WrongFingerprint = true
fails (answer.Expired moment expires) = true
fails answer.BadCertification = true
fails answer.BadCrosscert = true
fails answer.VerifierFault = false

-- What each refusal says, and what was asked of the signer before it: nothing where the certificate does not hold or
-- the verifier failed. For want of memory, which may come at any point, nothing, or the signature.
abbrev pub RefusesToMake : {N : Type 0} → Rules → Relation → SignerSteps N → (RelayFacts → Ruling → Bool) → Basis
    → MakeRefusal → N → N → Type 0
RefusesToMake rules gives steps allows its (refusal.OwnCert found) old new =
    (fails found ≡ true) × Checks rules its.valid_after its.station.certificate found × (new ≡ old)
RefusesToMake rules gives steps allows its refusal.SignerFault old new =
    IsCertified rules its.valid_after its.station.certificate × AsksForVote steps allows its sign.Fault old new
RefusesToMake rules gives steps allows its refusal.VerifierFault old new =
    IsCurrent its.valid_after its.station.certificate × (new ≡ old)
RefusesToMake rules gives steps allows its (refusal.TooLong count) old new =
    IsCertified rules its.valid_after its.station.certificate × IsTooLong gives steps allows its count old new
RefusesToMake rules gives steps allows its refusal.Memory old new =
    IsCertified rules its.valid_after its.station.certificate
    × ((new ≡ old) ⊎ ((result : SignAnswer) × AsksForVote steps allows its result old new))

-- ---- what the verifier is asked

-- what the check of the certificate answered, of which alone the verifier is asked
abbrev pub certificate_answer : {T : Type 0} → Result T MakeRefusal → CertAnswer
certificate_answer (Ok text) = answer.Checked
certificate_answer (Err (refusal.OwnCert found)) = found
certificate_answer (Err refusal.SignerFault) = answer.Checked
certificate_answer (Err refusal.VerifierFault) = answer.VerifierFault
certificate_answer (Err (refusal.TooLong count)) = answer.Checked
certificate_answer (Err refusal.Memory) = answer.Checked
