-- What is made of a basis and signed is a made vote, and why there is none.
use Rattle.std.proofs.Common.{◌≡◌, ℕ, ◌≤◌, List, length, refl, sym, subst, ⊎_elim, inl, inr, Result, Ok, Err, Bool}
use Rattle.std.specs.Prelude.{IfErr}
use Rattle.key_port.specs.{Answers.{Relation, Rules, Steps}, Signing.SignerSteps, declared.signer.SignAnswer.SignAnswer}
use Rattle.authority_certs.specs.{Checks.{Asks, Checks, IsCertified}, declared.cert.Cert.Cert}
use Rattle.authority_certs.specs.declared.checking.CertAnswer.{CertAnswer, TheVariants.Checked}
use Rattle.flag_rules.specs.declared.{relay.RelayFacts.RelayFacts, ruling.Ruling.Ruling}
use Rattle.vote_maker.specs.{Made.Basis, Making.{AsksForVote, IsMade, IsTextOf, RefusesToMake, certificate_answer}}
use Rattle.vote_maker.specs.Private.{AsksFor, IsSignedPart, IsSignedText, RefusesToSign}
use Rattle.vote_maker.specs.declared.refusal.MakeRefusal.{MakeRefusal}
use Rattle.vote_terms.specs.Votes.{max_vote}
use Rattle.vote_maker.specs.declared.refusal.MakeRefusal.TheVariants as refusal

-- ---- the certificate's check

pub certified_by : {U : Type 0} (rules : Rules) (at : ℕ) (cert : Cert) (checked : Result U MakeRefusal) (u : U)
    → checked ≡ Ok u → Checks rules at cert (certificate_answer checked) → IsCertified rules at cert
certified_by {U} rules at cert checked u is checks =
    subst (λ (r : Result U MakeRefusal). Checks rules at cert (certificate_answer r)) is checks

module _ {N : Type 0} (gives : Relation) (steps : SignerSteps N) where
  signed_is_checked : {T : Type 0} (cert : Cert) (text : List ℕ) (old new : N) (r : Result T MakeRefusal)
      → IfErr r (λ why. RefusesToSign gives steps cert text why old new) → certificate_answer r ≡ Checked
  signed_is_checked cert text old new (Ok x) why = refl
  signed_is_checked cert text old new (Err (refusal.OwnCert found)) why = absurd why
  signed_is_checked cert text old new (Err refusal.SignerFault) why = refl
  signed_is_checked cert text old new (Err refusal.VerifierFault) why = absurd why
  signed_is_checked cert text old new (Err (refusal.TooLong count)) why = refl
  signed_is_checked cert text old new (Err refusal.Memory) why = refl

  -- all that the verifier was asked is what the check asked, also where the vote is then not signed
  pub asked_by : {T U V : Type 0} (verifier_steps : Steps V) (own : Cert) (before after : V) (u : U)
      (checked : Result U MakeRefusal) (cert : Cert) (text : List ℕ) (old new : N) (r : Result T MakeRefusal)
      → checked ≡ Ok u → Asks verifier_steps own (certificate_answer checked) before after
      → IfErr r (λ why. RefusesToSign gives steps cert text why old new)
      → Asks verifier_steps own (certificate_answer r) before after
  asked_by {T} {U} verifier_steps own before after u checked cert text old new r is asks why =
      subst (λ (a : CertAnswer). Asks verifier_steps own a before after)
      (sym (signed_is_checked cert text old new r why))
      (subst (λ (c : Result U MakeRefusal). Asks verifier_steps own (certificate_answer c) before after) is asks)

  -- ---- the vote

  module _ (allows : RelayFacts → Ruling → Bool) (its : Basis) (text : List ℕ) where
    pub text_by : (whole : List ℕ) (old new : N) → IsSignedPart allows its text
        → IsSignedText gives steps its.station.certificate text whole old new
        → IsTextOf gives steps allows its whole old new
    text_by whole old new of signed =
        let there = subst (λ (t : List ℕ). IsSignedText gives steps its.station.certificate t whole old new)
        of.text_is signed in
        record {
          rulings = of.rulings;
          allowed = of.allowed;
          signature = there.signature;
          signed = record { given = there.given; sound = there.sound; short = there.short; asked = there.asked };
          text_is = there.whole_is;
        }

    asks_by : (result : SignAnswer) (old new : N) → IsSignedPart allows its text
        → AsksFor steps its.station.certificate text old result new → AsksForVote steps allows its result old new
    asks_by result old new of asks = record {
      rulings = of.rulings;
      allowed = of.allowed;
      asked = subst (λ (t : List ℕ). AsksFor steps its.station.certificate t old result new) of.text_is asks;
    }

    pub made_by : (rules : Rules) (whole : List ℕ) (old new : N)
        → IsCertified rules its.valid_after its.station.certificate → IsSignedPart allows its text
        → IsSignedText gives steps its.station.certificate text whole old new
        → length whole ≤ max_vote → IsMade rules gives steps allows its whole old new
    made_by rules whole old new certified of signed fits =
        record { certified = certified; text_of = text_by whole old new of signed; fits = fits }

    pub refuses_by : (rules : Rules) (why : MakeRefusal) (old new : N)
        → IsCertified rules its.valid_after its.station.certificate → IsSignedPart allows its text
        → RefusesToSign gives steps its.station.certificate text why old new
        → RefusesToMake rules gives steps allows its why old new
    refuses_by rules (refusal.OwnCert found) old new certified of is = absurd is
    refuses_by rules refusal.SignerFault old new certified of is = (certified, asks_by _ old new of is)
    refuses_by rules refusal.VerifierFault old new certified of is = absurd is
    refuses_by rules (refusal.TooLong count) old new certified of is = (
      certified,
      record {
        text = is.0;
        text_of = text_by is.0 old new of is.1;
        count_is = is.2;
        above = is.3;
      },
    )
    refuses_by rules refusal.Memory old new certified of is =
        (certified, ⊎_elim (λ kept. inl kept) (λ asked. inr (asked.0, asks_by asked.0 old new of asked.1)) is)
