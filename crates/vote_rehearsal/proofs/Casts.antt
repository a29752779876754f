-- Which votes are acceptable under the test scheme.
use Rattle.std.proofs.Common.{◌≡◌, ℕ, ◌<◌, Bool, true, false, List, refl, subst, arith, ◌⊎◌, inl, inr}
use Rattle.std.proofs.lemmas.Bool.{and_from, and_left, and_right, eq-eqb, le-ltb, lt-ltb, not-true}
use Rattle.std.specs.Prelude.{nat_eq, nat_lt, not, ◌&&◌}
use Rattle.dir_bytes.specs.Causes.{Rose}
use Rattle.dir_values.specs.{Digests.same_identity, Rosters.has_member, declared.digest.Fingerprint.Fingerprint}
use Rattle.key_port.specs.Answers as answers
use Rattle.key_port.specs.{Answers.Rules, TestScheme.is_test_signature}
use Rattle.authority_certs.specs.Checks.{certifies, crosscertifies, names_its_key}
use Rattle.authority_certs.specs.declared.checking.CertAnswer.TheVariants as answer
use Rattle.vote_terms.specs.{Acceptable.{IsAcceptable, has_fingerprint, names_signer, signs}, Votes.ReadVote}
use Rattle.vote_doc.specs.{Checks.RefusedBy, declared.check.VoteRefusal.{VoteRefusal, TheVariants.WrongPeriod}}
use Rattle.vote_doc.specs.declared.check.VoteRefusal.TheVariants.{UnknownAuthority, Cert, BadSignature, VerifierFault}
use Rattle.vote_rehearsal.specs.Casting.{is_acceptable}

-- the relations of the test scheme
abbrev pub test_rules : Rules
test_rules =
    answers.rules (λ kind key message signature. is_test_signature kind key message signature)
    (λ kind key message signature. not (is_test_signature kind key message signature))

-- ---- eight tests

-- what is asked of a vote, in its order
record Tests : Type 0 where
  period : Bool
  member : Bool
  fingerprint : Bool
  current : Bool
  certification : Bool
  crosscert : Bool
  signer : Bool
  signature : Bool

abbrev to_two : Tests → Bool
to_two t = t.period && t.member

abbrev to_three : Tests → Bool
to_three t = to_two t && t.fingerprint

abbrev to_four : Tests → Bool
to_four t = to_three t && t.current

abbrev to_five : Tests → Bool
to_five t = to_four t && t.certification

abbrev to_six : Tests → Bool
to_six t = to_five t && t.crosscert

abbrev to_seven : Tests → Bool
to_seven t = to_six t && t.signer

-- whether all hold
abbrev all_of : Tests → Bool
all_of t = to_seven t && t.signature

behind_seven : (t : Tests) → to_seven t ≡ false → all_of t ≡ false
behind_seven t is = and_left (to_seven t) t.signature is

behind_six : (t : Tests) → to_six t ≡ false → all_of t ≡ false
behind_six t is = behind_seven t (and_left (to_six t) t.signer is)

behind_five : (t : Tests) → to_five t ≡ false → all_of t ≡ false
behind_five t is = behind_six t (and_left (to_five t) t.crosscert is)

behind_four : (t : Tests) → to_four t ≡ false → all_of t ≡ false
behind_four t is = behind_five t (and_left (to_four t) t.certification is)

behind_three : (t : Tests) → to_three t ≡ false → all_of t ≡ false
behind_three t is = behind_four t (and_left (to_three t) t.current is)

behind_two : (t : Tests) → to_two t ≡ false → all_of t ≡ false
behind_two t is = behind_three t (and_left (to_two t) t.fingerprint is)

-- ---- those of a vote

abbrev tests_of : List Fingerprint → ℕ → ReadVote → Tests
tests_of roster moment vote = record {
  period = nat_eq vote.says.valid_after moment;
  member = has_member roster vote.says.identity;
  fingerprint = has_fingerprint vote;
  current = nat_lt moment vote.says.certificate.expires;
  certification = certifies is_test_signature vote.says.certificate;
  crosscert = crosscertifies is_test_signature vote.says.certificate;
  signer = names_signer vote;
  signature = signs is_test_signature vote;
}

pub acceptable_is : (roster : List Fingerprint) (moment : ℕ) (vote : ReadVote) → IsAcceptable test_rules roster moment vote
    → is_acceptable roster moment vote ≡ true
unfolding is_acceptable
acceptable_is roster moment vote is =
    let t = tests_of roster moment vote in
    let its = is.verified.certificate in
    let period : t.period ≡ true = eq-eqb vote.says.valid_after moment is.wanted.valid_after in
    let fingerprint : t.fingerprint ≡ true =
    and_from (same_identity vote.says.certificate.fingerprint vote.says.identity)
    (names_its_key vote.says.certificate) is.verified.authority its.current.fingerprint in
    let expires : moment < vote.says.certificate.expires =
    subst (λ (m : ℕ). m < vote.says.certificate.expires) is.wanted.valid_after its.current.expires in
    let current : t.current ≡ true = lt-ltb moment vote.says.certificate.expires expires in
    and_from (to_seven t) t.signature (and_from (to_six t) t.signer
    (and_from (to_five t) t.crosscert (and_from (to_four t) t.certification
    (and_from (to_three t) t.current (and_from (to_two t) t.fingerprint
    (and_from t.period t.member period is.wanted.authority) fingerprint) current)
    its.certification) its.crosscert) is.verified.signer) is.verified.signature

-- the verifier was asked, and failed: this one never does
no_fault : (Rose 0 0) → ⊥
no_fault rose = omega (arith, rose)

pub refused_is : (roster : List Fingerprint) (moment : ℕ) (vote : ReadVote) (refusal : VoteRefusal)
    → (refusal ≡ VerifierFault → Rose 0 0) → RefusedBy test_rules roster moment vote refusal
    → is_acceptable roster moment vote ≡ false
unfolding is_acceptable
refused_is roster moment vote (WrongPeriod valid_after) rose is =
    let t = tests_of roster moment vote in behind_two t (and_left t.period t.member is.0)
refused_is roster moment vote UnknownAuthority rose is =
    let t = tests_of roster moment vote in behind_two t (and_right t.period t.member is.1)
refused_is roster moment vote (Cert answer.Checked) rose is = absurd is
refused_is roster moment vote (Cert answer.WrongFingerprint) rose is =
    let t = tests_of roster moment vote in behind_three t (and_right (to_two t) t.fingerprint is.1)
refused_is roster moment vote (Cert (answer.Expired asked expires)) rose is =
    let t = tests_of roster moment vote in
    behind_four t (and_right (to_three t) t.current (le-ltb moment vote.says.certificate.expires is.0.2))
refused_is roster moment vote (Cert answer.BadCertification) rose is =
    let t = tests_of roster moment vote in
    behind_five t (and_right (to_four t) t.certification (not-true t.certification is.1))
refused_is roster moment vote (Cert answer.BadCrosscert) rose is =
    let t = tests_of roster moment vote in
    behind_six t (and_right (to_five t) t.crosscert (not-true t.crosscert is.2))
refused_is roster moment vote (Cert answer.VerifierFault) rose is = absurd is
refused_is roster moment vote BadSignature rose is = by is.3
  where
    by : (names_signer vote ≡ false) ⊎ (signs test_rules.may_refuse vote ≡ true)
        → all_of (tests_of roster moment vote) ≡ false
    by (inl other) =
        let t = tests_of roster moment vote in behind_seven t (and_right (to_six t) t.signer other)
    by (inr refused) =
        let t = tests_of roster moment vote in and_right (to_seven t) t.signature (not-true t.signature refused)
refused_is roster moment vote VerifierFault rose is = absurd (no_fault (rose refl))
