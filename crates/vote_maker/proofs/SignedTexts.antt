-- The text of a vote that was signed, and why one was not.
use Rattle.std.proofs.Common.{◌≡◌, ℕ, ◌<◌, true, List, [], ◌∷◌, ◌++◌, length, refl, sym, ap, subst, ◌∙◌, append_assoc}
use Rattle.std.{proofs.Common.{Result, Ok, Err}, specs.Prelude.IfOk}
use Rattle.item_terms.specs.Bytes.{line_feed, space}
use Rattle.sha1.specs.Sha1.{sha1}
use Rattle.key_port.specs.{Answers.Relation, Signing.{GivesBy, SignerSteps}}
use Rattle.key_port.specs.declared.signer.SignAnswer.TheVariants as sign
use Rattle.key_port.specs.declared.verifier.KeyKind.TheVariants as kind
use Rattle.authority_certs.specs.declared.cert.Cert.{Cert}
use Rattle.vote_text.specs.Made.{signature_rest}
use Rattle.vote_maker.specs.{Made.signature_by, Private.{IsSignedText, RefusesToSign}}
use Rattle.vote_maker.specs.declared.refusal.MakeRefusal.{MakeRefusal, TheVariants.TooLong}
use Rattle.vote_terms.specs.Votes.{max_vote}

-- what is said of a value by two facts
pub ok_both : {T E : Type 0} {P Q R : T → Type 0} (r : Result T E) → ((x : T) → P x → Q x → R x) → IfOk r P
    → IfOk r Q → IfOk r R
ok_both (Ok x) both p q = both x p q
ok_both (Err e) both p q = tt

-- a line of two words and what follows it, one after the other
pub in_turn : (o a k rest : List ℕ)
    → ((((o ++ a) ++ space ∷ []) ++ k) ++ line_feed ∷ []) ++ rest ≡ o ++ ((a ++ space ∷ k) ++ line_feed ∷ rest)
in_turn o a k rest =
    append_assoc (((o ++ a) ++ space ∷ []) ++ k) (line_feed ∷ []) rest
    ∙ append_assoc ((o ++ a) ++ space ∷ []) k (line_feed ∷ rest)
    ∙ append_assoc (o ++ a) (space ∷ []) (k ++ line_feed ∷ rest)
    ∙ append_assoc o a (space ∷ (k ++ line_feed ∷ rest))
    ∙ ap (λ (l : List ℕ). o ++ l) (sym (append_assoc a (space ∷ k) (line_feed ∷ rest)))

module _ {N : Type 0} (gives : Relation) (steps : SignerSteps N) (cert : Cert) (text : List ℕ) where
  pub signed_by : (key digest signature whole : List ℕ) (old new : N) → key ≡ cert.signing_key → digest ≡ sha1 text
      → GivesBy (gives kind.Signing key digest) (sign.Signed signature)
      → steps old kind.Signing key digest (sign.Signed signature) new
      → whole ≡ text ++ signature_rest (signature_by cert signature)
      → IsSignedText gives steps cert text whole old new
  signed_by key digest signature whole old new its hash answer step more =
      let made = sha1 text in
      record {
        signature = signature;
        given = subst (λ (k : List ℕ). gives kind.Signing k made signature ≡ true) its
            (subst (λ (d : List ℕ). gives kind.Signing key d signature ≡ true) hash answer.0);
        short = answer.1;
        sound = answer.2;
        asked = subst (λ (k : List ℕ). steps old kind.Signing k made (sign.Signed signature) new) its
            (subst (λ (d : List ℕ). steps old kind.Signing key d (sign.Signed signature) new) hash step);
        whole_is = more;
      }

  pub too_long_by : (whole : List ℕ) (why : MakeRefusal) (old new : N) → why ≡ TooLong (length whole)
      → max_vote < length whole → IsSignedText gives steps cert text whole old new
      → RefusesToSign gives steps cert text why old new
  too_long_by whole why old new is above signed =
      subst (λ (w : MakeRefusal). RefusesToSign gives steps cert text w old new) (sym is)
      (whole, signed, refl, above)
