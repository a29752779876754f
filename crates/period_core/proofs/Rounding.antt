-- What each stage comes to.
use Rattle.std.proofs.Common.{◌≡◌, ℕ, ◌<◌, ◌≤◌, true, List, length, Option, Some, None, refl, sym, ap, ◌∙◌, subst}
use Rattle.std.{proofs.Common.{le-ltb, lt-ltb}, specs.Prelude.{Result, Ok, Err, IfOk}}
use Rattle.key_port.specs.Answers.{Relation, Rules}
use Rattle.vote_terms.specs.Votes.{ReadVote}
use Rattle.count_terms.specs.Counts.{over}
use Rattle.compute_terms.specs.Consensuses.{consensus}
use Rattle.consensus_terms.specs.declared.consensus.Consensus.{Consensus}
use Rattle.period_terms.specs.declared.{answer.Advance.Advance, event.Signing.Signing, stage.Stage.Stage}
use Rattle.period_terms.specs.declared.stage.Stage.TheVariants.{Voting, Frozen, Computed, Signed, Ended}
use Rattle.period_terms.specs.{declared.state.State.State, Schedules.next_valid_after, States.{Outcome, consensus_of}}
use Rattle.period_terms.specs.{States.vote_of, Advances.{advance, MayGive, MayGiveIf}}
use Rattle.period_terms.specs.declared.answer.Advance.TheVariants as answer
use Rattle.period_terms.specs.declared.event.Signing.TheVariants as given
use Rattle.vote_schedule.specs.Moments as schedule_moments
use Rattle.period_terms.specs.Advances as advances
use Rattle.period_core.specs.{Rounds.make_of, Signing.{Advances, Comes}}

pub made_comes : (s next : State) (c made : Consensus) → (over (length s.votes) (length s.roster) ≡ true)
    × (c ≡ consensus s.newest (length s.roster) s.votes) → made ≡ c
    → next ≡ (advances.compute s made).after → Comes (make_of s) answer.Computed next
unfolding consensus_of
made_comes s next c made p q n = rw p.0 (refl, n ∙ ap (λ x. (advances.compute s x).after) (q ∙ p.1))

-- ---- a moment

free : (may_give : Relation) (rules : Rules) (computed : Option Consensus) (own : Option ReadVote)
    → MayGiveIf may_give rules computed own given.SignerFails
free may_give rules None own = tt
free may_give rules (Some c) None = tt
free may_give rules (Some c) (Some vote) = tt

comes_by : (stage : Stage) (s : State) (now : ℕ) (with' : Signing) (a : Advance) (next : State) → s.stage ≡ stage
    → Comes (advances.advance_at stage s now with') a next → Comes (advance s now with') a next
unfolding advance
comes_by stage s now with' a next at k = subst (λ (x : Stage). Comes (advances.advance_at x s now with') a next)
    (sym at) k

-- what a stage comes to, whatever the signer gives
pub by_itself : (may_give : Relation) (rules : Rules) (stage : Stage) (s : State) (now : ℕ) (a : Advance)
    (next : State) → s.stage ≡ stage
    → Comes (advances.advance_at stage s now given.SignerFails) a next → Advances may_give rules s now a next
by_itself may_give rules stage s now a next at k = record {
  given = given.SignerFails;
  may = free may_give rules s.computed (vote_of s.votes s.own);
  comes = comes_by stage s now given.SignerFails a next at k;
}

early_by : (s next : State) (moment now : ℕ) (outcome : Outcome Advance) → now < moment → next ≡ s
    → Comes (advances.from s moment now outcome) answer.Nothing next
early_by s next moment now outcome l e = rw (lt-ltb now moment l) (refl, e)

late_by : (s next : State) (moment now : ℕ) (outcome : Outcome Advance) (a : Advance) → moment ≤ now
    → Comes outcome a next → Comes (advances.from s moment now outcome) a next
late_by s next moment now outcome a l k = rw (le-ltb now moment l) k

-- ---- the rows

pub voting_early : (may_give : Relation) (rules : Rules) (s : State) (now : ℕ) → s.stage ≡ Voting
    → now < schedule_moments.freeze s.schedule s.valid_after → Advances may_give rules s now answer.Nothing s
voting_early m r s now at l = by_itself m r Voting s now answer.Nothing s at
    (early_by s s (schedule_moments.freeze s.schedule s.valid_after) now (advances.freeze s) l refl)

pub voting_late : (may_give : Relation) (rules : Rules) (s next : State) (now : ℕ) → s.stage ≡ Voting
    → schedule_moments.freeze s.schedule s.valid_after ≤ now → next ≡ (advances.freeze s).after
    → Advances may_give rules s now answer.Frozen next
voting_late m r s next now at l e = by_itself m r Voting s now answer.Frozen next at
    (late_by s next (schedule_moments.freeze s.schedule s.valid_after) now (advances.freeze s) answer.Frozen l
    (refl, e))

pub frozen : (may_give : Relation) (rules : Rules) (s next : State) (now : ℕ) (a : Advance) → s.stage ≡ Frozen
    → Comes (make_of s) a next → Advances may_give rules s now a next
frozen m r s next now a at k = by_itself m r Frozen s now a next at k

pub signed_early : (may_give : Relation) (rules : Rules) (s : State) (now : ℕ) → s.stage ≡ Signed
    → now < s.valid_after → Advances may_give rules s now answer.Nothing s
signed_early m r s now at l = by_itself m r Signed s now answer.Nothing s at (early_by s s s.valid_after now
    (advances.with_consensus s (advances.publish s) s.computed) l refl)

pub signed_late : (may_give : Relation) (rules : Rules) (s next : State) (now : ℕ) (a : Advance) → s.stage ≡ Signed
    → s.valid_after ≤ now
    → Comes (advances.with_consensus s (advances.publish s) s.computed) a next → Advances may_give rules s now a next
signed_late m r s next now a at l k = by_itself m r Signed s now a next at (late_by s next s.valid_after now
    (advances.with_consensus s (advances.publish s) s.computed) a l k)

pub ended_early : (may_give : Relation) (rules : Rules) (s : State) (now : ℕ) → s.stage ≡ Ended → now < s.valid_after
    → Advances may_give rules s now answer.Nothing s
ended_early m r s now at l = by_itself m r Ended s now answer.Nothing s at (early_by s s s.valid_after now
    (advances.begin s (next_valid_after s.schedule s.valid_after now)) l refl)

pub ended_late : (may_give : Relation) (rules : Rules) (s next : State) (now : ℕ) (a : Advance) → s.stage ≡ Ended
    → s.valid_after ≤ now
    → Comes (advances.begin s (next_valid_after s.schedule s.valid_after now)) a next → Advances may_give rules s now
    a next
ended_late m r s next now a at l k = by_itself m r Ended s now a next at (late_by s next s.valid_after now
    (advances.begin s (next_valid_after s.schedule s.valid_after now)) a l k)

-- ---- signing

-- what comes of signing, where this is what is given
own_comes : (may_give : Relation) (rules : Rules) (s next : State) (now : ℕ) (a : Advance) (c : Consensus)
    (own : Option ReadVote) (with' : Signing) → s.stage ≡ Computed → s.computed ≡ Some c → vote_of s.votes s.own ≡ own
    → MayGiveIf may_give rules (Some c) own with' → Comes (advances.sign_or_pass s c own with') a next
    → Advances may_give rules s now a next
own_comes may_give rules s next now a c own with' at is f may k = record {
  given = with';
  may = subst (λ (o : Option ReadVote). MayGiveIf may_give rules s.computed o with') (sym f)
      (subst (λ (o : Option Consensus). MayGiveIf may_give rules o own with') (sym is) may);
  comes = comes_by Computed s now with' a next at
      (subst (λ (o : Option Consensus). Comes (advances.with_consensus s (λ d. advances.sign_or_pass s d
      (vote_of s.votes s.own) with') o) a next) (sym is)
      (subst (λ (o : Option ReadVote). Comes (advances.sign_or_pass s c o with') a next) (sym f) k));
}

pub no_consensus : (may_give : Relation) (rules : Rules) (s : State) (now : ℕ) → s.stage ≡ Computed
    → s.computed ≡ None → Advances may_give rules s now answer.Nothing s
no_consensus m r s now at is = by_itself m r Computed s now answer.Nothing s at
    (subst (λ (o : Option Consensus). Comes (advances.with_consensus s (λ d. advances.sign_or_pass s d
    (vote_of s.votes s.own) given.SignerFails) o) answer.Nothing s) (sym is) (refl, refl))

pub no_vote : (may_give : Relation) (rules : Rules) (s : State) (now : ℕ) (c : Consensus) → s.stage ≡ Computed
    → s.computed ≡ Some c → vote_of s.votes s.own ≡ None
    → Advances may_give rules s now answer.NoOwnVote (advances.pass_over s).after
no_vote m r s now c at is f = own_comes m r s (advances.pass_over s).after now answer.NoOwnVote c None
    given.SignerFails at is f tt (refl, refl)

pub signer_fails : (may_give : Relation) (rules : Rules) (s : State) (now : ℕ) (c : Consensus) (vote : ReadVote)
    → s.stage ≡ Computed → s.computed ≡ Some c → vote_of s.votes s.own ≡ Some vote
    → Advances may_give rules s now answer.SignerFault s
signer_fails m r s now c vote at is f = own_comes m r s s now answer.SignerFault c (Some vote) given.SignerFails at is
    f tt (refl, refl)

pub verifier_fails : (may_give : Relation) (rules : Rules) (s : State) (now : ℕ) (c : Consensus) (vote : ReadVote)
    → s.stage ≡ Computed → s.computed ≡ Some c → vote_of s.votes s.own ≡ Some vote
    → Advances may_give rules s now answer.VerifierFault s
verifier_fails m r s now c vote at is f = own_comes m r s s now answer.VerifierFault c (Some vote) given.VerifierFails
    at is f tt (refl, refl)

pub refused : (may_give : Relation) (rules : Rules) (s : State) (now : ℕ) (c : Consensus) (vote : ReadVote)
    (digest : List ℕ) → s.stage ≡ Computed → s.computed ≡ Some c → vote_of s.votes s.own ≡ Some vote
    → MayGive may_give rules vote.says.certificate.signing_key c (given.Refused digest) → Advances may_give rules s
    now (answer.OwnSignatureRefused digest) s
refused m r s now c vote digest at is f may = own_comes m r s s now (answer.OwnSignatureRefused digest) c (Some vote)
    (given.Refused digest) at is f may (refl, refl)

pub signs : (may_give : Relation) (rules : Rules) (s : State) (now : ℕ) (c : Consensus) (vote : ReadVote)
    (ns microdesc : List ℕ) → s.stage ≡ Computed → s.computed ≡ Some c → vote_of s.votes s.own ≡ Some vote
    → MayGive may_give rules vote.says.certificate.signing_key c (given.Given ns microdesc)
    → Advances may_give rules s now answer.Signed (advances.sign_with s c vote.says.certificate.signing_key ns
    microdesc).after
signs m r s now c vote ns microdesc at is f may =
    own_comes m r s (advances.sign_with s c vote.says.certificate.signing_key ns microdesc).after now answer.Signed c
    (Some vote) (given.Given ns microdesc) at is f may (refl, refl)

-- what holds of what was found
pub if_ok : {A E : Type 0} (r : Result A E) (P Q : A → Type 0) → ((a : A) → P a → Q a) → IfOk r P → IfOk r Q
if_ok (Ok a) P Q f p = f a p
if_ok (Err e) P Q f p = p
