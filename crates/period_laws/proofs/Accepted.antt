-- What is held, and what is computed, told from the accepted votes.
use Rattle.std.{proofs.Common.{◌≡◌, List, [], ◌∷◌, length, refl, sym, ap, ◌∙◌, subst}, specs.Prelude.Contains}
use Rattle.count_terms.specs.declared.newest.Newest.{Newest}
use Rattle.dir_values.specs.declared.digest.Fingerprint.{Fingerprint}
use Rattle.vote_terms.{specs.{Votes.ReadVote, Held.held}, proofs.HeldLaw.{held_law, held_agree as held_are_one}}
use Rattle.vote_terms.proofs.HeldLaw.{ranks_agree}
use Rattle.consensus_terms.specs.{declared.consensus.Consensus.Consensus, Texts.unsigned}
use Rattle.compute_terms.specs.Consensuses.{consensus}
use Rattle.period_terms.specs.declared.event.Event.{Event, TheVariants.{Offered, Advanced, SignedIn, Read}}
use Rattle.period_terms.specs.{declared.state.State.State, Offers.offer, Advances.advance, SignIns.sign_in, Steps.step}
use Rattle.period_terms.specs.Histories.{IsStart, run, accepted_after, accepted_with, accepted}
use Rattle.period_laws.specs.Periods.{HeldAreHeld, AcceptedAreWanted, ComputedOfAccepted, RanksAreOne}
use Rattle.period_laws.{specs.Periods.PeriodStatesAgree, proofs.{Members.in_from, Rows.{offering, advancing}}}
use Rattle.period_laws.proofs.{Rows.signing_in, AcceptedSteps.{StandsAt, none_is, vote_stands, moment_stands}}
use Rattle.period_laws.proofs.AcceptedSteps.{signature_stands}

-- ---- whole lists

step_stands : (newest : Newest) (roster : List Fingerprint) (acc : List ReadVote) (s : State) (event : Event)
    → StandsAt newest roster acc s
    → StandsAt newest roster (accepted_after event (step s event).answer acc) (step s event).after
step_stands newest roster acc s (Offered vote via now) k = vote_stands newest roster acc s vote (offer s vote via now)
    (offering s vote via now) k
step_stands newest roster acc s (Advanced now given) k = moment_stands newest roster acc s given (advance s now given)
    (advancing s now given) k
step_stands newest roster acc s (SignedIn signature) k =
    signature_stands newest roster acc s signature (sign_in s signature)
    (signing_in s signature) k
step_stands newest roster acc s Read k = k

run_stands : (events : List Event) (newest : Newest) (roster : List Fingerprint) (acc : List ReadVote) (s : State)
    → StandsAt newest roster acc s
    → StandsAt newest roster (accepted_with acc s events) (run s events)
run_stands [] newest roster acc s k = k
run_stands (event ∷ events) newest roster acc s k =
    run_stands events newest roster (accepted_after event (step s event).answer acc) (step s event).after
    (step_stands newest roster acc s event k)

start_stands : (start : State) → IsStart start → StandsAt start.newest start.roster [] start
start_stands start begin = record {
  newest_is = refl;
  roster_is = refl;
  votes_is = ap (λ (x : State). x.votes) begin.empty;
  wanted = λ v i. absurd i;
  unset = λ e. ap (λ (x : State). x.computed) begin.empty;
  texts = λ c e. absurd (none_is c start.computed (ap (λ (x : State). x.computed) begin.empty) e);
}

after_all : (start : State) (events : List Event) → IsStart start
    → StandsAt start.newest start.roster (accepted start events)
    (run start events)
after_all start events begin = run_stands events start.newest start.roster [] start (start_stands start begin)

-- ---- the laws

-- the roster is that of the start
pub roster_stays : (start : State) (events : List Event) → IsStart start → (run start events).roster ≡ start.roster
roster_stays start events begin = (after_all start events begin).roster_is

pub are_held : HeldAreHeld
are_held start events begin = (after_all start events begin).votes_is

pub are_wanted : AcceptedAreWanted
are_wanted start events begin vote c =
    let r = (after_all start events begin).wanted vote (in_from (accepted start events) vote c) in
    record { valid_after = r.0; authority = r.1 }

pub of_accepted : ComputedOfAccepted
of_accepted start events begin c e = (after_all start events begin).texts c e

pub one_rank : RanksAreOne
one_rank one other events others alike a b ca cb e =
    let l = accepted one events in
    let m = accepted other others in
    ranks_agree l m (held l) (held m) alike.same (held_law l) (held_law m) a b
    (subst (λ (x : List ReadVote). Contains x a) (are_held one events alike.first) ca)
    (subst (λ (x : List ReadVote). Contains x b) (are_held other others alike.second) cb) e

pub one_text : PeriodStatesAgree
one_text one other events others alike apart =
    let l = accepted one events in
    let m = accepted other others in
    let same : held l ≡ held m = held_are_one l m alike.same apart in
    record {
      votes = are_held one events alike.first ∙ same ∙ sym (are_held other others alike.second);
      texts = λ c d e f flavour. ap (λ (x : Consensus). unsigned flavour x)
          (of_accepted one events alike.first c e
          ∙ ap (λ (x : Newest). consensus x (length one.roster) (held l)) alike.newest
          ∙ ap (λ (x : List Fingerprint). consensus other.newest (length x) (held l)) alike.roster
          ∙ ap (λ (x : List ReadVote). consensus other.newest (length other.roster) x) same
          ∙ sym (of_accepted other others alike.second d f));
    }
