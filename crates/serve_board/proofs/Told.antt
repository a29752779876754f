-- What is told of a signing may be given where what was given may be.
use Rattle.std.proofs.Common.{◌≡◌, ℕ, Bool, true, false, cond, not, ◌||◌, nat_lt, List, [], ◌∷◌, ◌++◌, length, filter}
use Rattle.std.proofs.Common.{find, Option, Some, None, refl, sym, ap, ◌∙◌, subst}
use Rattle.count_terms.specs.Counts.{over}
use Rattle.vote_schedule.specs.Moments as schedule_moments
use Rattle.dir_values.specs.Digests.{same_identity}
use Rattle.key_port.specs.Answers.{Relation, Rules}
use Rattle.vote_terms.specs.Votes.{ReadVote}
use Rattle.consensus_terms.specs.declared.{consensus.Consensus.Consensus, flavour.Flavour.TheVariants.{Ns, Microdesc}}
use Rattle.consensus_terms.specs.declared.signature.SignatureLine.{SignatureLine}
use Rattle.period_terms.specs.declared.{answer.Advance.Advance, event.Signing.{Signing, TheVariants.Given}}
use Rattle.period_terms.specs.declared.event.Signing.TheVariants.{SignerFails, VerifierFails, Refused}
use Rattle.period_terms.specs.declared.stage.Stage.{Stage, TheVariants.{Voting, Frozen, Computed, Signed, Ended}}
use Rattle.period_terms.specs.{declared.state.State.State, Schedules.next_valid_after, States.Outcome}
use Rattle.period_terms.specs.States.{unchanged_outcome, vote_of, consensus_of, is_signed, with_signature}
use Rattle.period_terms.specs.Advances.{advance, advance_at, with_consensus, sign_or_pass, own_line, from, freeze}
use Rattle.period_terms.specs.Advances.{compute, give_up, publish, publish_these, miss, begin, signature_in, given_told}
use Rattle.period_terms.specs.Advances.{own_signatures, sign_with, MayGiveIf, MayGive, MayGiveAt}
use Rattle.period_terms.proofs.Placing.{itself}
use Rattle.period_terms.specs.declared.answer.Advance.TheVariants as moments

-- ---- the signature that was put is the one that is found

found_by : (b : Bool) (line x : SignatureLine) (xs : List SignatureLine) → same_identity x.identity line.identity ≡ b
    → find (λ (o : SignatureLine). same_identity o.identity line.identity)
    (filter (λ (o : SignatureLine). not (same_identity o.identity line.identity)) xs ++ line ∷ []) ≡ Some line
    → find (λ (o : SignatureLine). same_identity o.identity line.identity)
    (cond (not b) (x ∷ filter (λ (o : SignatureLine). not (same_identity o.identity line.identity)) xs)
    (filter (λ (o : SignatureLine). not (same_identity o.identity line.identity)) xs) ++ line ∷ []) ≡ Some line
found_by true line x xs e r = r
found_by false line x xs e r = rw e r

found : (lines : List SignatureLine) (line : SignatureLine)
    → find (λ (o : SignatureLine). same_identity o.identity line.identity)
    (filter (λ (o : SignatureLine). not (same_identity o.identity line.identity)) lines ++ line ∷ []) ≡ Some line
found [] line = rw (itself line.identity) refl
found (x ∷ xs) line = found_by _ line x xs refl (found xs line)

own_is : (lines : List SignatureLine) (line : SignatureLine) → signature_in (with_signature lines line)
    line.identity ≡ line.signature
own_is lines line = rw (found lines line) refl

signed_are : (s : State) (c : Consensus) (key ns microdesc : List ℕ)
    → own_signatures (sign_with s c key ns microdesc).after ≡ Given ns microdesc
signed_are s c key ns microdesc =
    ap (λ (x : List ℕ). Given x
    (signature_in (with_signature s.micro_lines (own_line Microdesc s.own key microdesc)) s.own))
    (own_is s.ns_lines (own_line Ns s.own key ns))
    ∙ ap (λ (x : List ℕ). Given ns x) (own_is s.micro_lines (own_line Microdesc s.own key microdesc))

-- ---- outcomes that tell of no signing

abbrev TellsNothing : Outcome Advance → Type 0
TellsNothing o = given_told o.answer o.after ≡ SignerFails

silent_if : (b : Bool) (x y : Outcome Advance) → TellsNothing x → TellsNothing y → TellsNothing (cond b x y)
silent_if true x y p q = p
silent_if false x y p q = q

silent_from : (s : State) (moment now : ℕ) (o : Outcome Advance) → TellsNothing o → TellsNothing (from s moment now o)
silent_from s moment now o p = silent_if (nat_lt now moment) (unchanged_outcome s moments.Nothing) o refl p

publishing : (s : State) (computed : Option Consensus) → TellsNothing (with_consensus s (publish s) computed)
publishing s None = refl
publishing s (Some c) =
    silent_if (is_signed Ns s || is_signed Microdesc s)
    (publish_these s c (is_signed Ns s) (is_signed Microdesc s)) (miss s) refl refl

beginning : (s : State) (next : Option ℕ) → TellsNothing (begin s next)
beginning s None = refl
beginning s (Some next) = refl

-- ---- what may be given

module _ (may_give : Relation) (rules : Rules) where
  fails : (computed : Option Consensus) (own : Option ReadVote) → MayGiveIf may_give rules computed own SignerFails
  fails None own = tt
  fails (Some c) None = tt
  fails (Some c) (Some vote) = tt

  signing : (s : State) (c : Consensus) (own : Option ReadVote) (given : Signing)
      → MayGiveIf may_give rules (Some c) own given
      → MayGiveIf may_give rules (Some c) own
      (given_told (sign_or_pass s c own given).answer (sign_or_pass s c own given).after)
  signing s c None given may = tt
  signing s c (Some vote) (Given ns microdesc) may =
      subst (λ (g : Signing). MayGive may_give rules vote.says.certificate.signing_key c g)
      (sym (signed_are s c vote.says.certificate.signing_key ns microdesc)) may
  signing s c (Some vote) SignerFails may = tt
  signing s c (Some vote) VerifierFails may = tt
  signing s c (Some vote) (Refused digest) may = may

  computed_there : (s : State) (computed : Option Consensus) (given : Signing)
      → MayGiveIf may_give rules computed (vote_of s.votes s.own) given
      → MayGiveIf may_give rules computed (vote_of s.votes s.own)
      (given_told (with_consensus s (λ c. sign_or_pass s c (vote_of s.votes s.own) given) computed).answer
      (with_consensus s (λ c. sign_or_pass s c (vote_of s.votes s.own) given) computed).after)
  computed_there s None given may = tt
  computed_there s (Some c) given may = signing s c (vote_of s.votes s.own) given may

  silent : (s : State) (o : Outcome Advance) → TellsNothing o
      → MayGiveAt may_give rules s (given_told o.answer o.after)
  silent s o nothing =
      subst (λ (g : Signing). MayGiveAt may_give rules s g) (sym nothing)
      (fails s.computed (vote_of s.votes s.own))

  may_at : (stage : Stage) (s : State) (now : ℕ) (given : Signing) → MayGiveAt may_give rules s given
      → MayGiveAt may_give rules s
      (given_told (advance_at stage s now given).answer (advance_at stage s now given).after)
  may_at Voting s now given may =
      silent s (advance_at Voting s now given)
      (silent_from s (schedule_moments.freeze s.schedule s.valid_after) now (freeze s) refl)
  may_at Frozen s now given may =
      silent s (advance_at Frozen s now given)
      (silent_if (over (length s.votes) (length s.roster)) (compute s (consensus_of s)) (give_up s) refl refl)
  may_at Computed s now given may = computed_there s s.computed given may
  may_at Signed s now given may =
      silent s (advance_at Signed s now given)
      (silent_from s s.valid_after now (with_consensus s (publish s) s.computed) (publishing s s.computed))
  may_at Ended s now given may =
      silent s (advance_at Ended s now given)
      (silent_from s s.valid_after now (begin s (next_valid_after s.schedule s.valid_after now))
      (beginning s (next_valid_after s.schedule s.valid_after now)))

  pub told_may : (s : State) (now : ℕ) (given : Signing) → MayGiveAt may_give rules s given
      → MayGiveAt may_give rules s (given_told (advance s now given).answer (advance s now given).after)
  unfolding advance
  told_may s now given may = may_at s.stage s now given may
