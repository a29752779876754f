-- What the signer gave is told by the answer and the state after it.
use Rattle.std.proofs.Common.{◌≡◌, ℕ, Bool, true, false, cond, not, List, [], ◌∷◌, ◌++◌, filter, find, Option, Some}
use Rattle.std.proofs.Common.{None, refl, ap, ◌∙◌}
use Rattle.dir_values.specs.Digests.{same_identity}
use Rattle.vote_terms.specs.Votes.{ReadVote}
use Rattle.consensus_terms.specs.declared.{consensus.Consensus.Consensus, flavour.Flavour.TheVariants.{Ns, Microdesc}}
use Rattle.consensus_terms.specs.declared.signature.SignatureLine.{SignatureLine}
use Rattle.period_terms.specs.declared.{answer.Advance.Advance, event.Signing.{Signing, TheVariants.Given}}
use Rattle.period_terms.specs.declared.event.Signing.TheVariants.{SignerFails, VerifierFails, Refused}
use Rattle.period_terms.specs.declared.stage.Stage.{Stage, TheVariants.{Voting, Frozen, Computed, Signed, Ended}}
use Rattle.period_terms.specs.{declared.state.State.State, States.{Outcome, vote_of, with_signature}, Advances.advance}
use Rattle.period_terms.specs.Advances.{advance_at, with_consensus, sign_or_pass, sign_with, own_line, signature_in}
use Rattle.period_terms.specs.Advances.{given_told}
use Rattle.period_laws.{specs.Periods.GivenIsTold, proofs.Digests.itself}

found_by : (b : Bool) (line x : SignatureLine) (xs : List SignatureLine) → same_identity x.identity line.identity ≡ b
    → find (λ (o : SignatureLine). same_identity o.identity line.identity)
    (filter (λ (o : SignatureLine). not (same_identity o.identity line.identity)) xs ++ line ∷ []) ≡ Some line
    → find (λ (o : SignatureLine). same_identity o.identity line.identity)
    (cond (not b) (x ∷ filter (λ (o : SignatureLine). not (same_identity o.identity line.identity)) xs)
    (filter (λ (o : SignatureLine). not (same_identity o.identity line.identity)) xs) ++ line ∷ []) ≡ Some line
found_by true line x xs e r = r
found_by false line x xs e r = rw e r

-- the signature that was put is the one that is found
own_found : (lines : List SignatureLine) (line : SignatureLine)
    → find (λ (o : SignatureLine). same_identity o.identity line.identity)
    (filter (λ (o : SignatureLine). not (same_identity o.identity line.identity)) lines ++ line ∷ []) ≡ Some line
own_found [] line = rw (itself line.identity) refl
own_found (x ∷ xs) line = found_by _ line x xs refl (own_found xs line)

own_is : (lines : List SignatureLine) (line : SignatureLine) → signature_in (with_signature lines line)
    line.identity ≡ line.signature
own_is lines line = rw (own_found lines line) refl

-- what came of one signing comes of what is told of it
abbrev Told : (Signing → Outcome Advance) → Signing → Type 0
Told outcome given = outcome (given_told (outcome given).answer (outcome given).after) ≡ outcome given

signing_told : (s : State) (c : Consensus) (own : Option ReadVote) (given : Signing) → Told (sign_or_pass s c own) given
signing_told s c None given = refl
signing_told s c (Some vote) (Given ns microdesc) =
    let key = vote.says.certificate.signing_key in
    ap (λ (x : List ℕ). sign_with s c vote.says.certificate.signing_key x
    (signature_in (with_signature s.micro_lines (own_line Microdesc s.own vote.says.certificate.signing_key
    microdesc)) s.own))
    (own_is s.ns_lines (own_line Ns s.own key ns))
    ∙ ap (λ (x : List ℕ). sign_with s c vote.says.certificate.signing_key ns x)
    (own_is s.micro_lines (own_line Microdesc s.own key microdesc))
signing_told s c (Some vote) SignerFails = refl
signing_told s c (Some vote) VerifierFails = refl
signing_told s c (Some vote) (Refused digest) = refl

computed_told : (s : State) (computed : Option Consensus) (given : Signing)
    → Told (λ g. with_consensus s (λ c. sign_or_pass s c (vote_of s.votes s.own) g) computed) given
computed_told s None given = refl
computed_told s (Some c) given = signing_told s c (vote_of s.votes s.own) given

told_at : (stage : Stage) (s : State) (now : ℕ) (given : Signing) → Told (advance_at stage s now) given
told_at Voting s now given = refl
told_at Frozen s now given = refl
told_at Computed s now given = computed_told s s.computed given
told_at Signed s now given = refl
told_at Ended s now given = refl

pub told : GivenIsTold
unfolding advance
told state now given = told_at state.stage state now given
