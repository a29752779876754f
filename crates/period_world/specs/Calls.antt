-- What one thing that comes to an authority is answered, and what a whole list of them is.
use Rattle.std.specs.Prelude.{◌≡◌, List, [], ◌∷◌}
use Rattle.key_port.specs.Answers.{Relation, Rules}
use Rattle.vote_terms.specs.Votes.{ReadVote}
use Rattle.period_terms.specs.declared.{answer.Answer.Answer, event.Event.{Event, TheVariants.{Offered, Advanced}}}
use Rattle.period_terms.specs.declared.event.{Event.TheVariants.SignedIn, Signing.Signing}
use Rattle.period_terms.specs.{declared.{signature.OfferedSignature.OfferedSignature, state.State.State}, Histories.run}
use Rattle.period_terms.specs.Steps.{step}
use Rattle.period_laws.specs.Checked.{IsChecked, AreChecked}
use Rattle.period_world.specs.declared.coming.Coming.{Coming, TheVariants.{Vote, Moment, Signature}}

-- one thing that comes to an authority, as contracts see it
abbrev pub Arrival : Type 0
Arrival = Coming ReadVote OfferedSignature

-- What comes is this event. With a moment the event has what the signer gave.
abbrev pub IsEvent : Arrival → Event → Type 0
IsEvent (Vote vote via now) event = event ≡ Offered vote via now
IsEvent (Moment now) event = (given : Signing) × (event ≡ Advanced now given)
IsEvent (Signature signature) event = event ≡ SignedIn signature

-- they are these events, one by one
abbrev pub AreEvents : List Arrival → List Event → Type 0
AreEvents [] [] = Unit {0}
AreEvents [] (event ∷ events) = ⊥
AreEvents (one ∷ coming) [] = ⊥
AreEvents (one ∷ coming) (event ∷ events) = IsEvent one event × AreEvents coming events

-- what events are answered, each in the state that those before it lead to
abbrev pub answers_of : State → List Event → List Answer
answers_of state [] = []
answers_of state (event ∷ events) = (step state event).answer ∷ answers_of (step state event).after events

-- What one thing that comes is answered, and the state after it: those of an event that it is, checked before.
pub record TakesOne (may_give : Relation) (rules : Rules) (old : State) (one : Arrival) (answer : Answer)
    (new : State) : Type 0 where
  pub event : Event
  pub is : IsEvent one event
  pub checked : IsChecked may_give rules old event
  pub answered : answer ≡ (step old event).answer
  pub after : new ≡ (step old event).after

-- What a whole list of what comes is answered, and the state after it: those of a list of events that it is, each
-- checked before.
pub record TakesAll (may_give : Relation) (rules : Rules) (old : State) (coming : List Arrival) (answers : List Answer)
    (new : State) : Type 0 where
  pub events : List Event
  pub are : AreEvents coming events
  pub checked : AreChecked may_give rules old events
  pub answered : answers ≡ answers_of old events
  pub after : new ≡ run old events
