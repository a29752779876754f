-- What was accepted was checked before it came, where all that came was.
use Rattle.std.proofs.Common.{◌≡◌, Bool, true, false, cond, List, [], ◌∷◌, ◌++◌, refl, sym, subst, ⊎_elim, Option, Some}
use Rattle.std.proofs.Common.{None, option_to_list, append-nil}
use Rattle.consensus_terms.specs.declared.consensus.Consensus.{Consensus}
use Rattle.period_terms.specs.declared.{answer.{Answer.Answer, Advance.Advance}, event.Signing.Signing}
use Rattle.period_terms.specs.declared.event.Signing.TheVariants.{Given, SignerFails, VerifierFails, Refused}
use Rattle.period_terms.specs.declared.event.Event.{Event, TheVariants.{Offered, Advanced, SignedIn, Read}}
use Rattle.period_terms.specs.{declared.{entry.Entry.Entry, state.State.State}, Advances.MayGiveIf, Offers.offer}
use Rattle.period_terms.specs.{Steps.{step, changes}, Histories.{run, after, accepts, still_accepted, accepted_after}}
use Rattle.period_terms.specs.Histories.{accepted_with, accepted}
use Rattle.key_port.specs.Answers.{Relation, Rules}
use Rattle.vote_terms.specs.{Votes.ReadVote, Acceptable.IsVerified}
use Rattle.period_terms.specs.declared.answer.Advance.TheVariants as moments
use Rattle.period_laws.specs.{Periods.Along, Checked.{IsChecked, AreChecked, HistoryRuns, AcceptedAreAcceptable}}
use Rattle.period_laws.{specs.Checked.{CheckedGoesOn, anything, events_of}, proofs.{Leading.on, Accepted.are_wanted}}
use Rattle.period_laws.proofs.Members.{In, in_from, in_either}

-- ---- histories

-- the events of a history lead where it leads
pub runs_from : (story : List Entry) (s : State) → run s (events_of story) ≡ after s story
runs_from [] s = refl
runs_from (entry ∷ story) s = runs_from story (step s entry.event).after

pub runs : HistoryRuns
runs start story = runs_from story start

-- a fact of each event is one of each before some
pub along_front : (Fact : State → Event → Type 0) (before later : List Entry) (s : State)
    → Along Fact s (events_of (before ++ later)) → Along Fact s (events_of before)
along_front Fact [] later s h = tt
along_front Fact (entry ∷ before) later s h = (h.0, along_front Fact before later (step s entry.event).after h.1)

-- ---- one event more

along_push : (Fact : State → Event → Type 0) (story : List Entry) (s : State) (event : Event) (answer : Answer)
    → Along Fact s (events_of story) → Fact (after s story) event
    → Along Fact s (events_of (story ++ record { event = event; answer = answer } ∷ []))
along_push Fact [] s event answer h f = (f, tt)
along_push Fact (entry ∷ story) s event answer h f =
    (h.0, along_push Fact story (step s entry.event).after event answer h.1 f)

along_if : (b : Bool) (Fact : State → Event → Type 0) (story : List Entry) (s : State) (event : Event)
    (answer : Answer) → Along Fact s (events_of story) → Fact (after s story) event
    → Along Fact s (events_of (story ++ option_to_list
    (cond b (Some (record { event = event; answer = answer })) None)))
along_if true Fact story s event answer h f = along_push Fact story s event answer h f
along_if false Fact story s event answer h f =
    subst (λ (l : List Entry). Along Fact s (events_of l)) (sym (append-nil story)) h

-- a history that was checked goes on by an event that was
pub goes_on : CheckedGoesOn
goes_on rules start story event is here = record {
  is = (on start story event is.is).is;
  checked = along_if (changes (step (after start story) event).answer) (IsChecked anything rules) story start event
      (step (after start story) event).answer is.checked here;
}

-- what one signer may give, whoever signs may
pub anyone_may : (may_give : Relation) (rules : Rules) (computed : Option Consensus) (own : Option ReadVote)
    (given : Signing) → MayGiveIf may_give rules computed own given → MayGiveIf anything rules computed own given
anyone_may may_give rules None own given may = tt
anyone_may may_give rules (Some c) None given may = tt
anyone_may may_give rules (Some c) (Some vote) (Given ns microdesc) may =
    (record { given = refl; accepted = may.0.accepted }, record { given = refl; accepted = may.1.accepted })
anyone_may may_give rules (Some c) (Some vote) SignerFails may = tt
anyone_may may_give rules (Some c) (Some vote) VerifierFails may = tt
anyone_may may_give rules (Some c) (Some vote) (Refused digest) may =
    (may.0, record { bytes = may.1.bytes; given = refl; refused = may.1.refused })

-- ---- votes

-- each of these votes holds
abbrev Hold : Rules → List ReadVote → Type 0
Hold rules votes = (v : ReadVote) → In v votes → IsVerified rules v

still_hold : (rules : Rules) (answer : Advance) (votes : List ReadVote) → Hold rules votes
    → Hold rules (still_accepted answer votes)
still_hold rules moments.Nothing votes k = k
still_hold rules moments.Frozen votes k = k
still_hold rules moments.Computed votes k = k
still_hold rules (moments.NoConsensus held roster) votes k = k
still_hold rules moments.NoOwnVote votes k = k
still_hold rules moments.Signed votes k = k
still_hold rules (moments.Published ns microdesc) votes k = k
still_hold rules (moments.Missed ns microdesc roster) votes k = k
still_hold rules (moments.Began valid_after) votes k = λ v i. absurd i
still_hold rules moments.EndOfTime votes k = k
still_hold rules moments.SignerFault votes k = k
still_hold rules moments.VerifierFault votes k = k
still_hold rules (moments.OwnSignatureRefused digest) votes k = k

one_holds : (rules : Rules) (b : Bool) (vote : ReadVote) → IsVerified rules vote
    → Hold rules (cond b (vote ∷ []) [])
one_holds rules true vote is v i =
    ⊎_elim (λ (e : v ≡ vote). subst (λ (x : ReadVote). IsVerified rules x) (sym e) is) (λ n. absurd n) i
one_holds rules false vote is v i = absurd i

step_hold : (may_give : Relation) (rules : Rules) (s : State) (event : Event) (votes : List ReadVote)
    → IsChecked may_give rules s event → Hold rules votes
    → Hold rules (accepted_after event (step s event).answer votes)
step_hold may_give rules s (Offered vote via now) votes is k = λ v i.
    ⊎_elim (λ (j : In v votes). k v j)
    (λ j. one_holds rules (accepts (offer s vote via now).answer) vote is v j)
    (in_either votes (cond (accepts (offer s vote via now).answer) (vote ∷ []) []) v i)
step_hold may_give rules s (Advanced now given) votes is k = still_hold rules _ votes k
step_hold may_give rules s (SignedIn signature) votes is k = k
step_hold may_give rules s Read votes is k = k

all_hold : (events : List Event) (may_give : Relation) (rules : Rules) (s : State) (votes : List ReadVote)
    → AreChecked may_give rules s events → Hold rules votes → Hold rules (accepted_with votes s events)
all_hold [] may_give rules s votes is k = k
all_hold (event ∷ events) may_give rules s votes is k =
    all_hold events may_give rules (step s event).after (accepted_after event (step s event).answer votes) is.1
    (step_hold may_give rules s event votes is.0 k)

pub are_acceptable : AcceptedAreAcceptable
are_acceptable may_give rules start events begin is vote c = record {
  wanted = are_wanted start events begin vote c;
  verified =
      all_hold events may_give rules start [] is (λ v i. absurd i) vote (in_from (accepted start events) vote c);
}
