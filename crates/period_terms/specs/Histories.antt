-- Whole lists of events, and the history that they leave.
use Rattle.std.specs.Prelude.{◌≡◌, ℕ, Bool, true, List, [], ◌∷◌, ◌++◌, Some, None, if◌then◌else◌, Option}
use Rattle.count_terms.specs.declared.newest.Newest.{Newest}
use Rattle.dir_values.specs.{declared.digest.Fingerprint.Fingerprint, Rosters.{IsRoster, has_member}}
use Rattle.vote_terms.specs.Votes.{ReadVote}
use Rattle.period_terms.specs.declared.answer.Answer.{Answer, TheVariants.{Vote, Moment, Signature, Reading}}
use Rattle.period_terms.specs.declared.{answer.{Offer.Offer, Advance.Advance}, entry.Entry.Entry, event.Event.Event}
use Rattle.period_terms.specs.declared.event.Event.TheVariants.{Offered, Advanced, SignedIn, Read}
use Rattle.period_terms.specs.{declared.{stage.Stage.TheVariants.Voting, state.State.State}, Schedules.next_valid_after}
use Rattle.period_terms.specs.Steps.{step, changes}
use Rattle.period_terms.specs.declared.answer.Offer.TheVariants as offers
use Rattle.period_terms.specs.declared.answer.Advance.TheVariants as moments
use Rattle.vote_schedule.specs.Schedules.{Schedule, IsSchedule}

-- ---- the start

-- an authority that begins and knows this newest method, in the period that begins then
abbrev pub start_in : List Fingerprint → Fingerprint → Newest → Schedule → ℕ → State
start_in roster own newest schedule valid_after = record {
  roster = roster;
  own = own;
  newest = newest;
  schedule = schedule;
  valid_after = valid_after;
  stage = Voting;
  votes = [];
  vote_changes = 0;
  computed = None;
  ns_lines = [];
  micro_lines = [];
  ns_current = None;
  micro_current = None;
  front = 0;
  base = 0;
  changes = [];
}

-- The state is one in which an authority of a roster begins at some moment.
pub record IsStart (state : State) : Type 0 where
  pub members : IsRoster state.roster
  pub member : has_member state.roster state.own ≡ true
  pub times : IsSchedule state.schedule
  pub now : ℕ
  pub next : next_valid_after state.schedule 0 now ≡ Some state.valid_after
  pub empty : state ≡ start_in state.roster state.own state.newest state.schedule state.valid_after

-- ---- lists of events

-- the state after events
abbrev pub run : State → List Event → State
run state [] = state
run state (event ∷ events) = run (step state event).after events

-- ---- histories

-- the state after the entries of a history
abbrev pub after : State → List Entry → State
after state [] = state
after state (entry ∷ entries) = after (step state entry.event).after entries

-- the entry of an event, where it changed something
abbrev pub entry_of : Event → Answer → List Entry
entry_of event answer = if changes answer then record { event = event; answer = answer } ∷ [] else []

-- the same as an option
abbrev pub entry_if : Event → Answer → Option Entry
entry_if event answer = if changes answer then Some (record { event = event; answer = answer }) else None

-- Entries that may have come one after the other from a state on: each with its answer there, and each changed
-- something.
abbrev pub IsHistory : State → List Entry → Type 0
IsHistory state [] = Unit {0}
IsHistory state (entry ∷ entries) =
    (entry.answer ≡ (step state entry.event).answer) × (changes entry.answer ≡ true)
    × IsHistory (step state entry.event).after entries

-- the history that events leave: those that changed something, each with its answer
abbrev pub history : State → List Event → List Entry
history state [] = []
history state (event ∷ events) = entry_of event (step state event).answer ++ history (step state event).after events

-- ---- deliveries

-- whether an offered vote was accepted: it is held, or one of its authority of no less rank is
abbrev pub accepts : Offer → Bool
accepts (offers.OtherPeriod valid_after) = Bool.false
accepts (offers.Stranger authority) = Bool.false
accepts (offers.Late now cutoff frozen) = Bool.false
accepts (offers.Have held) = true
accepts (offers.Older held) = true
accepts offers.Full = Bool.false
accepts (offers.Kept position) = true
accepts (offers.Replaced position old) = true

-- the votes that were accepted before a moment, and are of the period after it: none where the next one began
abbrev pub still_accepted : Advance → List ReadVote → List ReadVote
still_accepted moments.Nothing votes = votes
still_accepted moments.Frozen votes = votes
still_accepted moments.Computed votes = votes
still_accepted (moments.NoConsensus held roster) votes = votes
still_accepted moments.NoOwnVote votes = votes
still_accepted moments.Signed votes = votes
still_accepted (moments.Published ns microdesc) votes = votes
still_accepted (moments.Missed ns microdesc roster) votes = votes
still_accepted (moments.Began valid_after) votes = []
still_accepted moments.EndOfTime votes = votes
still_accepted moments.SignerFault votes = votes
still_accepted moments.VerifierFault votes = votes
still_accepted (moments.OwnSignatureRefused digest) votes = votes

-- the vote that an event offered, where it was accepted
abbrev pub accepted_in : Event → Answer → List ReadVote
accepted_in (Offered vote via now) (Vote answer) = if accepts answer then vote ∷ [] else []
accepted_in (Offered vote via now) (Moment answer) = []
accepted_in (Offered vote via now) (Signature answer) = []
accepted_in (Offered vote via now) Reading = []
accepted_in (Advanced now given) answer = []
accepted_in (SignedIn signature) answer = []
accepted_in Read answer = []

-- the votes of the period that were accepted, after an event
abbrev pub accepted_after : Event → Answer → List ReadVote → List ReadVote
accepted_after event (Moment answer) votes = still_accepted answer votes
accepted_after event (Vote answer) votes = votes ++ accepted_in event (Vote answer)
accepted_after event (Signature answer) votes = votes
accepted_after event Reading votes = votes

-- these votes of the period, and those that events from a state on bring
abbrev pub accepted_with : List ReadVote → State → List Event → List ReadVote
accepted_with votes state [] = votes
accepted_with votes state (event ∷ events) =
    accepted_with (accepted_after event (step state event).answer votes) (step state event).after events

-- the votes that were accepted, of the events since the period began
abbrev pub accepted : State → List Event → List ReadVote
accepted state events = accepted_with [] state events
