-- What lists of deliveries leave.
use Rattle.std.proofs.Common.{◌≡◌, ℕ, ◌<◌, Bool, true, false, cond, List, [], ◌∷◌, ◌++◌, refl, sym, ap, ◌∙◌, subst}
use Rattle.std.proofs.{Common.{Option, Some, None, option_to_list}, lemmas.Bool.false≢true}
use Rattle.key_port.specs.Answers.{Rules}
use Rattle.vote_terms.{specs.{Votes.ReadVote, Held.{held, IsHeld, SameMembers, RanksApart}}, proofs.HeldLaw.held_law}
use Rattle.period_terms.specs.declared.{answer.Advance.Advance, entry.Entry.Entry, event.Event.Event}
use Rattle.period_terms.specs.declared.event.{Event.TheVariants.{Offered, Advanced, SignedIn, Read}, Via.Via}
use Rattle.period_terms.specs.{declared.state.State.State, Advances.advance, Offers.offer, Readings.current_of}
use Rattle.period_terms.specs.{Steps.{step, changes}, Histories.{IsStart, run, after, history, accepts, still_accepted}}
use Rattle.period_terms.specs.Histories.{accepted_with, accepted}
use Rattle.period_terms.specs.declared.answer.Advance.TheVariants as moments
use Rattle.period_laws.specs.{Checked.{IsChecked, AreChecked, IsCheckedHistory, anything, events_of}, Periods.Along}
use Rattle.period_laws.{specs.{Periods.AreAlike, ShortForms.begins_next}, proofs.Accepted.{are_held, of_accepted}}
use Rattle.period_laws.proofs.{Accepted.{one_rank, one_text}, Leading.{leads, is_one, on}, Verified.are_acceptable}
use Rattle.period_laws.proofs.Currents.{were_published}
use Rattle.headline.specs.{Times.Has, Lists.{DeliveriesAreRight, IsInPeriod, delivered, AreOfOnePeriod, ListsAgree}}
use Rattle.headline.{specs.Lists.RefusalsChangeNothing, proofs.{Deliveries.deliveries, Right.rightly}}

-- ---- what changes nothing leaves no entry

no_change : (s : State) (event : Event) → changes (step s event).answer ≡ false → s ≡ (step s event).after
no_change s event e =
    ap (λ (b : Bool). after s (option_to_list (cond b (Some (record { event = event; answer = (step s event).answer })) None)))
    (sym e)
    ∙ (on s [] event tt).leads

along_history : (Fact : State → Event → Type 0) (events : List Event) (s : State) → Along Fact s events
    → Along Fact s (events_of (history s events))
along_history Fact [] s h = tt
along_history Fact (event ∷ events) s h =
    by (changes (step s event).answer) refl (along_history Fact events (step s event).after h.1)
  where
    by : (b : Bool) → changes (step s event).answer ≡ b
        → Along Fact (step s event).after (events_of (history (step s event).after events))
        → Along Fact s (events_of (cond b (record { event = event; answer = (step s event).answer } ∷ []) []
        ++ history (step s event).after events))
    by true e k = (h.0, k)
    by false e k =
        subst (λ (x : State). Along Fact x (events_of (history (step s event).after events))) (sym (no_change s event e)) k

-- ---- one list

pub are_right : DeliveriesAreRight
are_right rules start events begin h =
    let story : List Entry = history start events in
    let is : IsCheckedHistory rules start story =
    record { is = is_one start events; checked = along_history (IsChecked anything rules) events start h } in
    record {
      acceptable = are_acceptable anything rules start events begin h;
      held_are = subst (λ (votes : List ReadVote). IsHeld (accepted start events) votes) (sym (are_held start events begin))
          (held_law (accepted start events));
      alone = of_accepted start events begin;
      published = λ flavour text e. rightly rules start story begin flavour text
          (were_published rules start story begin is flavour text
          (subst (λ (s : State). current_of flavour s ≡ Some text) (sym (leads start events)) e));
    }

-- ---- two lists

still : (answer : Advance) (votes : List ReadVote) → begins_next answer ≡ false → still_accepted answer votes ≡ votes
still moments.Nothing votes e = refl
still moments.Frozen votes e = refl
still moments.Computed votes e = refl
still (moments.NoConsensus held roster) votes e = refl
still moments.NoOwnVote votes e = refl
still moments.Signed votes e = refl
still (moments.Published ns microdesc) votes e = refl
still (moments.Missed ns microdesc roster) votes e = refl
still (moments.Began valid_after) votes e = absurd (false≢true (sym e))
still moments.EndOfTime votes e = refl
still moments.SignerFault votes e = refl
still moments.VerifierFault votes e = refl
still (moments.OwnSignatureRefused digest) votes e = refl

nil_end : (l : List ReadVote) → l ++ [] ≡ l
nil_end [] = refl
nil_end (x ∷ l) = ap (λ (m : List ReadVote). x ∷ m) (nil_end l)

one_on : (l : List ReadVote) (x : ReadVote) (m : List ReadVote) → (l ++ x ∷ []) ++ m ≡ l ++ x ∷ m
one_on [] x m = refl
one_on (y ∷ l) x m = ap (λ (k : List ReadVote). y ∷ k) (one_on l x m)

all_accepted : (events : List Event) (votes : List ReadVote) (s : State) → Along IsInPeriod s events
    → accepted_with votes s events ≡ votes ++ delivered events
all_accepted [] votes s h = sym (nil_end votes)
all_accepted (Offered vote via now ∷ events) votes s h =
    let taken : accepts (offer s vote via now).answer ≡ true = (deliveries s vote via now).each h.0.0 h.0.1 in
    ap (λ (b : Bool). accepted_with (votes ++ cond b (vote ∷ []) []) (step s (Offered vote via now)).after events) taken
    ∙ all_accepted events (votes ++ vote ∷ []) (step s (Offered vote via now)).after h.1
    ∙ one_on votes vote (delivered events)
all_accepted (Advanced now given ∷ events) votes s h =
    ap (λ (l : List ReadVote). accepted_with l (step s (Advanced now given)).after events)
    (still (advance s now given).answer votes h.0)
    ∙ all_accepted events votes (step s (Advanced now given)).after h.1
all_accepted (SignedIn signature ∷ events) votes s h =
    all_accepted events votes (step s (SignedIn signature)).after h.1
all_accepted (Read ∷ events) votes s h = all_accepted events votes (step s Read).after h.1

pub agree : ListsAgree
agree one other events others is =
    let here : accepted one events ≡ delivered events = all_accepted events [] one is.all in
    let there : accepted other others ≡ delivered others = all_accepted others [] other is.all_others in
    let same : SameMembers (accepted one events) (accepted other others) =
    subst (λ (l : List ReadVote). SameMembers l (accepted other others)) (sym here)
    (subst (λ (m : List ReadVote). SameMembers (delivered events) m) (sym there) is.same) in
    let alike : AreAlike one other events others =
    record { first = is.first; second = is.second; roster = is.roster; newest = is.newest; same = same } in
    record {
      ranks = λ a b i j e. one_rank one other events others alike a b i j e;
      documents = λ apart. one_text one other events others alike
          (subst (λ (l : List ReadVote). RanksApart l) (sym here) apart);
    }

-- ---- what is refused

pub refusals_change_nothing : RefusalsChangeNothing
refusals_change_nothing s event e = sym (no_change s event e)
