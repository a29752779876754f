-- When a vote is acceptable, and by which clause it is refused (dir-spec, "Creating key certificates"; "Vote and consensus
-- status document formats").
use Rattle.std.specs.Prelude.{◌≡◌, ◌⊎◌, ℕ, ◌+◌, ◌≤◌, nat_eq, Bool, true, false, ◌&&◌, List, take, All, Some, slice_get}
use Rattle.std.specs.Str.{bytes_eq}
use Rattle.sha1.specs.Sha1.{sha1}
use Rattle.sha2.specs.Sha256.{sha256}
use Rattle.dir_values.specs.declared.algorithm.Algorithm.{Algorithm, TheVariants.{Sha1, Sha256}}
use Rattle.dir_values.specs.{declared.digest.Fingerprint.Fingerprint, Digests.same_identity, Rosters.has_member}
use Rattle.key_port.specs.Answers.{Relation, Rules, ExactlyOneHolds}
use Rattle.key_port.specs.declared.verifier.KeyKind.TheVariants as kind
use Rattle.authority_certs.specs.Checks.{IsCurrent, IsCertified, certifies, crosscertifies, names_its_key}
use Rattle.vote_terms.specs.{Votes.ReadVote, declared.word.VoteWord.VoteWord}
use Rattle.vote_terms.specs.declared.word.VoteWord.TheVariants as word

-- ---- the signature

-- the digest of a text by an algorithm
abbrev pub digest_by : Algorithm → List ℕ → List ℕ
digest_by Sha1 text = sha1 text
digest_by Sha256 text = sha256 text

-- what a vote's signature is made over: the digest of its signed part, by the algorithm that the signature names
abbrev pub signed_digest : ReadVote → List ℕ
signed_digest vote = digest_by vote.says.signature.algorithm vote.signed

-- whether the signature names the authority of the certificate and the certificate's signing key
abbrev pub names_signer : ReadVote → Bool
names_signer vote =
    same_identity vote.says.signature.identity vote.says.certificate.fingerprint
    && bytes_eq vote.says.signature.key_digest.0 (sha1 vote.says.certificate.signing_key)

-- whether a relation has the signing key's signature over the vote
abbrev pub signs : Relation → ReadVote → Bool
signs has vote = has kind.Signing vote.says.certificate.signing_key (signed_digest vote) vote.says.signature.signature

-- ---- the clauses

-- the vote is for this period, and of an authority of the roster
pub record IsWanted (roster : List Fingerprint) (period : ℕ) (vote : ReadVote) : Type 0 where
  pub valid_after : vote.says.valid_after ≡ period
  pub authority : has_member roster vote.says.identity ≡ true

-- whether the certificate's fingerprint is the vote's authority, and that of its identity key
abbrev pub has_fingerprint : ReadVote → Bool
has_fingerprint vote = same_identity vote.says.certificate.fingerprint vote.says.identity && names_its_key vote.says.certificate

-- The vote holds: its certificate is its authority's and holds when the period of the vote begins, and its signature is of the
-- certificate's authority and signing key and may be accepted.
pub record IsVerified (rules : Rules) (vote : ReadVote) : Type 0 where
  pub authority : same_identity vote.says.certificate.fingerprint vote.says.identity ≡ true
  pub certificate : IsCertified rules vote.says.valid_after vote.says.certificate
  pub signer : names_signer vote ≡ true
  pub signature : signs rules.may_accept vote ≡ true

-- the vote is wanted, and holds
pub record IsAcceptable (rules : Rules) (roster : List Fingerprint) (period : ℕ) (vote : ReadVote) : Type 0 where
  pub wanted : IsWanted roster period vote
  pub verified : IsVerified rules vote

-- The vote is wanted, and its certificate is its authority's and has not expired: what is left to ask is the verifier's, and who
-- signed.
pub record IsAsked (roster : List Fingerprint) (period : ℕ) (vote : ReadVote) : Type 0 where
  pub wanted : IsWanted roster period vote
  pub authority : same_identity vote.says.certificate.fingerprint vote.says.identity ≡ true
  pub current : IsCurrent period vote.says.certificate

-- a clause fails, and those before it hold
abbrev pub Refuses : Rules → List Fingerprint → ℕ → ReadVote → VoteWord → Type 0
Refuses rules roster period vote word.ValidAfter = nat_eq vote.says.valid_after period ≡ false
Refuses rules roster period vote word.Authority = (vote.says.valid_after ≡ period) × (has_member roster vote.says.identity ≡ false)
Refuses rules roster period vote word.Fingerprint = IsWanted roster period vote × (has_fingerprint vote ≡ false)
Refuses rules roster period vote word.Expired =
    IsWanted roster period vote × (has_fingerprint vote ≡ true) × (vote.says.certificate.expires ≤ period)
Refuses rules roster period vote word.Certification =
    IsAsked roster period vote × (certifies rules.may_refuse vote.says.certificate ≡ true)
Refuses rules roster period vote word.Crosscert =
    IsAsked roster period vote × (certifies rules.may_accept vote.says.certificate ≡ true) × (crosscertifies rules.may_refuse vote.says.certificate ≡ true)
Refuses rules roster period vote word.Signature =
    IsAsked roster period vote × (certifies rules.may_accept vote.says.certificate ≡ true) × (crosscertifies rules.may_accept vote.says.certificate ≡ true)
    × ((names_signer vote ≡ false) ⊎ (signs rules.may_refuse vote ≡ true))

-- ---- among others

-- This vote stands behind so many, which are acceptable.
pub record IsReached (rules : Rules) (roster : List Fingerprint) (period : ℕ) (votes : List ReadVote) (before : ℕ) (vote : ReadVote) : Type 0 where
  pub acceptable : All (λ other. IsAcceptable rules roster period other) (take before votes)
  pub stands : slice_get votes before ≡ Some vote

-- The vote with this number, from 1, is the first that is not acceptable, and this word says why.
pub record IsFirstRefused (rules : Rules) (roster : List Fingerprint) (period : ℕ) (votes : List ReadVote) (number : ℕ) (word : VoteWord) : Type 0 where
  pub before : ℕ
  pub place : number ≡ before + 1
  pub vote : ReadVote
  pub reached : IsReached rules roster period votes before vote
  pub fails : Refuses rules roster period vote word

-- The verifier is asked of a vote behind acceptable ones.
pub record AsksOf (rules : Rules) (roster : List Fingerprint) (period : ℕ) (votes : List ReadVote) : Type 0 where
  pub before : ℕ
  pub vote : ReadVote
  pub reached : IsReached rules roster period votes before vote
  pub asked : IsAsked roster period vote

-- ---- signatures that may not be refused

-- none of the vote's three signatures may be refused
pub record RefusesNone (rules : Rules) (vote : ReadVote) : Type 0 where
  pub certification : certifies rules.may_refuse vote.says.certificate ≡ false
  pub crosscert : crosscertifies rules.may_refuse vote.says.certificate ≡ false
  pub signature : signs rules.may_refuse vote ≡ false

-- Where each signature either may be accepted or may be refused, none of a vote that holds may be refused.
abbrev pub VerifiedAreNotRefused : Type 0
VerifiedAreNotRefused = (rules : Rules) (vote : ReadVote) → ExactlyOneHolds rules.may_accept rules.may_refuse → IsVerified rules vote → RefusesNone rules vote
