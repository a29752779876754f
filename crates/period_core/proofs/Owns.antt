-- What comes of an authority's own signing, exit by exit.
use Rattle.std.proofs.Common.{◌≡◌, ℕ, ◌++◌, List, length, Option, Some, None, refl, sym, ap, ◌∙◌, subst}
use Rattle.std.specs.Prelude.{option_map}
use Rattle.key_port.specs.Answers.{Relation, Rules}
use Rattle.dir_values.specs.declared.digest.Fingerprint.{Fingerprint}
use Rattle.vote_terms.specs.Votes.{ReadVote}
use Rattle.consensus_terms.specs.declared.{consensus.Consensus.Consensus, flavour.Flavour.TheVariants.{Ns, Microdesc}}
use Rattle.consensus_terms.specs.declared.signature.SignatureLine.{SignatureLine}
use Rattle.period_terms.specs.declared.answer.Advance.TheVariants as answer
use Rattle.period_terms.specs.declared.event.Signing.TheVariants as given
use Rattle.period_terms.specs.{declared.{stage.Stage.TheVariants.Computed, state.State.State}, States.vote_of}
use Rattle.period_terms.{specs.{States.digest_of, Advances.{MayGive, own_line}}, proofs.DigestSizes.both_size}
use Rattle.period_terms.specs.Advances as advances
use Rattle.period_core.{specs.{Rounds.with_own, Signing.Advances}, proofs.Rounding.{no_consensus, no_vote}}
use Rattle.period_core.proofs.Rounding.{signer_fails, verifier_fails, refused, signs}

abbrev key_of : ReadVote → List ℕ
key_of vote = vote.says.certificate.signing_key

key_none : (o : Option ReadVote) → None ≡ option_map key_of o → o ≡ None
key_none None e = refl
key_none (Some v) e = absurd cc

-- the own vote, and its key
record Found (k : List ℕ) (o : Option ReadVote) : Type 0 where
  vote : ReadVote
  is : o ≡ Some vote
  key : k ≡ key_of vote

key_some : (k : List ℕ) (o : Option ReadVote) → Some k ≡ option_map key_of o → Found k o
key_some k None e = absurd cc
key_some k (Some v) e = record { vote = v; is = refl; key = cc }

pub gives_nothing : (m : Relation) (r : Rules) (s : State) → s.stage ≡ Computed → None ≡ s.computed → (now : ℕ)
    → Advances m r s now answer.Nothing s
gives_nothing m r s at is now = no_consensus m r s now at (sym is)

pub gives_no_vote : (m : Relation) (r : Rules) (s : State) (c : Consensus) → s.stage ≡ Computed → Some c ≡ s.computed
    → None ≡ option_map key_of (vote_of s.votes s.own) → (now : ℕ)
    → Advances m r s now answer.NoOwnVote (advances.pass_over s).after
gives_no_vote m r s c at is f now = no_vote m r s now c at (sym is) (key_none (vote_of s.votes s.own) f)

pub gives_signer : (m : Relation) (r : Rules) (s : State) (c : Consensus) (k : List ℕ) → s.stage ≡ Computed
    → Some c ≡ s.computed → Some k ≡ option_map key_of (vote_of s.votes s.own) → (now : ℕ)
    → Advances m r s now answer.SignerFault s
gives_signer m r s c k at is f now = let v = key_some k (vote_of s.votes s.own) f in signer_fails m r s now c v.vote
    at (sym is) v.is

pub gives_verifier : (m : Relation) (r : Rules) (s : State) (c : Consensus) (k : List ℕ) → s.stage ≡ Computed
    → Some c ≡ s.computed → Some k ≡ option_map key_of (vote_of s.votes s.own) → (now : ℕ)
    → Advances m r s now answer.VerifierFault s
gives_verifier m r s c k at is f now = let v = key_some k (vote_of s.votes s.own) f in verifier_fails m r s now c
    v.vote at (sym is) v.is

pub gives_refused : (m : Relation) (r : Rules) (s : State) (c : Consensus) (k digest : List ℕ) → s.stage ≡ Computed
    → Some c ≡ s.computed → Some k ≡ option_map key_of (vote_of s.votes s.own)
    → MayGive m r k c (given.Refused digest) → (now : ℕ) → Advances m r s now (answer.OwnSignatureRefused digest) s
gives_refused m r s c k digest at is f may now =
    let v = key_some k (vote_of s.votes s.own) f in
    refused m r s now c v.vote digest at (sym is) v.is (subst (λ (x : List ℕ). MayGive m r x c (given.Refused digest))
    v.key may)

line_is : (n : SignatureLine) (s : State) (own : Fingerprint) (k j b : List ℕ) → n ≡ own_line Ns own k b → own ≡ s.own
    → k ≡ j → own_line Ns s.own j b ≡ n
line_is n s own k j b e o q = sym (e ∙ ap (λ x. own_line Ns x k b) o ∙ ap (λ x. own_line Ns s.own x b) q)

line_is2 : (n : SignatureLine) (s : State) (own : Fingerprint) (k j b : List ℕ) → n ≡ own_line Microdesc own k b
    → own ≡ s.own → k ≡ j → own_line Microdesc s.own j b ≡ n
line_is2 n s own k j b e o q = sym (e ∙ ap (λ x. own_line Microdesc x k b) o ∙ ap (λ x. own_line Microdesc s.own x b) q)

pub gives_signed : (m : Relation) (r : Rules) (s : State) (c : Consensus) (k a b digests d e : List ℕ)
    (me : Fingerprint) (ns microdesc : SignatureLine) → s.stage ≡ Computed → Some c ≡ s.computed
    → Some k ≡ option_map key_of (vote_of s.votes s.own) → MayGive m r k c (given.Given a b) → me ≡ s.own
    → (ns ≡ own_line Ns me k a) × (microdesc ≡ own_line Microdesc me k b)
    → digests ≡ d ++ e → d ≡ digest_of Ns c → e ≡ digest_of Microdesc c
    → ((now : ℕ) → Advances m r s now answer.Signed (with_own ns microdesc digests s)) × (ns.identity ≡ s.own)
    × (microdesc.identity ≡ s.own) × (length digests ≡ 52)
gives_signed m r s c k a b digests d e me ns microdesc at is f may o l q x y =
    let v = key_some k (vote_of s.votes s.own) f in
    let both : digest_of Ns c ++ digest_of Microdesc c ≡ digests = sym (q ∙ ap (λ z. z ++ e) x
    ∙ ap (λ z. digest_of Ns c ++ z) y) in (
      (λ now. subst (λ (n : SignatureLine). Advances m r s now answer.Signed (with_own n microdesc digests s))
          (line_is ns s me k (key_of v.vote) a l.0 o v.key)
          (subst (λ (n : SignatureLine). Advances m r s now answer.Signed
          (with_own (own_line Ns s.own (key_of v.vote) a) n digests s)) (line_is2 microdesc s me k (key_of v.vote) b
          l.1 o v.key)
          (subst (λ (z : List ℕ). Advances m r s now answer.Signed (with_own (own_line Ns s.own (key_of v.vote) a)
          (own_line Microdesc s.own (key_of v.vote) b) z s)) both
          (signs m r s now c v.vote a b at (sym is) v.is (subst (λ (z : List ℕ). MayGive m r z c (given.Given a b))
          v.key may))))),
      ap (λ (n : SignatureLine). n.identity) l.0 ∙ o,
      ap (λ (n : SignatureLine). n.identity) l.1 ∙ o,
      ap length (sym both) ∙ both_size c,
    )
