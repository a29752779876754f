-- Lists of deliveries: all that comes to an authority, also what changes nothing.
use Rattle.std.specs.Prelude.{◌≡◌, ◌<◌, ◌∷◌, [], false, List, Contains}
use Rattle.key_port.specs.Answers.{Rules}
use Rattle.vote_terms.specs.{Votes.ReadVote, Held.{outranks, SameMembers, RanksApart}}
use Rattle.period_terms.specs.declared.event.Event.{Event, TheVariants.{Offered, Advanced, SignedIn, Read}}
use Rattle.period_terms.specs.{declared.state.State.State, Advances.advance, Histories.{IsStart, run, accepted}}
use Rattle.period_terms.specs.{Offers.most_vote_changes, Steps.{step, changes}}
use Rattle.period_laws.specs.{Checked.{AreChecked, anything}, Periods.{Along, HoldTheSame}, ShortForms.begins_next}
use Rattle.headline.specs.Times.{Has, IsDelivered}

-- Whatever list of deliveries that were checked came, in whatever order and however often, an authority has what `Has`
-- says of the votes that it accepted.
abbrev pub DeliveriesAreRight : Type 0
DeliveriesAreRight = (rules : Rules) (start : State) (events : List Event) → IsStart start
    → AreChecked anything rules start events
    → Has rules start.roster start.newest (run start events) (accepted start events)

-- ---- two lists

-- A vote is for the period, of a member and not late, and not past the limit; and the period goes on.
abbrev pub IsInPeriod : State → Event → Type 0
IsInPeriod state (Offered vote via now) = IsDelivered state vote via now × (state.vote_changes < most_vote_changes)
IsInPeriod state (Advanced now given) = begins_next (advance state now given).answer ≡ false
IsInPeriod state (SignedIn signature) = Unit {0}
IsInPeriod state Read = Unit {0}

-- the votes that were delivered
abbrev pub delivered : List Event → List ReadVote
delivered [] = []
delivered (Offered vote via now ∷ events) = vote ∷ delivered events
delivered (Advanced now given ∷ events) = delivered events
delivered (SignedIn signature ∷ events) = delivered events
delivered (Read ∷ events) = delivered events

-- Two lists of deliveries of one period to two authorities of one roster that know the same newest method, with the
-- same votes, none of them late or past the limit.
pub record AreOfOnePeriod (one other : State) (events others : List Event) : Type 0 where
  pub first : IsStart one
  pub second : IsStart other
  pub roster : one.roster ≡ other.roster
  pub newest : one.newest ≡ other.newest
  pub all : Along IsInPeriod one events
  pub all_others : Along IsInPeriod other others
  pub same : SameMembers (delivered events) (delivered others)

-- They leave the same ranks; and equal votes and documents, unless two different votes share a rank.
pub record LeaveTheSame (one other : State) (events others : List Event) : Type 0 where
  pub ranks : (a b : ReadVote) → Contains (run one events).votes a → Contains (run other others).votes b
      → a.says.identity ≡ b.says.identity → (outranks a b ≡ false) × (outranks b a ≡ false)
  pub documents : RanksApart (delivered events) → HoldTheSame (run one events) (run other others)

abbrev pub ListsAgree : Type 0
ListsAgree = (one other : State) (events others : List Event) → AreOfOnePeriod one other events others
    → LeaveTheSame one other events others

-- ---- what is refused

-- An event that changes nothing by its answer leaves the state as it was.
abbrev pub RefusalsChangeNothing : Type 0
RefusalsChangeNothing =
    (state : State) (event : Event) → changes (step state event).answer ≡ false → (step state event).after ≡ state
