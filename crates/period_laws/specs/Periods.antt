-- What an authority holds and publishes after any events, told from the votes that it accepted.
use Rattle.std.specs.Prelude.{◌≡◌, ℕ, ◌+◌, ◌≤◌, ◌||◌, Bool, true, false, List, [], ◌∷◌, length, Contains, Some}
use Rattle.std.specs.Prelude.{if◌then◌else◌, ◌++◌, option_to_list, is_some, None}
use Rattle.key_port.specs.Answers.{Relation, Rules}
use Rattle.key_port.specs.declared.verifier.KeyKind.TheVariants as key_kind
use Rattle.vote_terms.specs.{Votes.ReadVote, Held.{held, outranks, SameMembers, RanksApart}, Acceptable.IsWanted}
use Rattle.consensus_terms.specs.declared.{consensus.Consensus.Consensus, flavour.Flavour.{Flavour, TheVariants.Ns}}
use Rattle.consensus_terms.specs.declared.{flavour.Flavour.TheVariants.Microdesc, signature.SignatureLine.SignatureLine}
use Rattle.consensus_terms.specs.{Texts.unsigned, Signed.signed}
use Rattle.compute_terms.specs.Consensuses.{consensus}
use Rattle.period_terms.specs.declared.answer.Advance.TheVariants as moments
use Rattle.period_terms.specs.declared.{entry.Entry.Entry, event.Event.{Event, TheVariants.{Offered, Advanced}}}
use Rattle.period_terms.specs.declared.{event.{Event.TheVariants.{SignedIn, Read}, Signing.Signing}, stage.Stage.Stage}
use Rattle.period_terms.specs.declared.stage.Stage.TheVariants.{Voting, Frozen, Computed, Signed, Ended}
use Rattle.period_terms.specs.{declared.state.State.State, States.{lines_of, digest_of, is_signed}, Advances.advance}
use Rattle.period_terms.specs.{Advances.{MayGiveAt, given_told}, Steps.step, Histories.{IsStart, IsHistory, run, after}}
use Rattle.period_terms.specs.Histories.{entry_if, history, accepted}

-- ---- votes and texts

-- Whatever came, the held votes are those that are held of the votes of the period that were accepted.
abbrev pub HeldAreHeld : Type 0
HeldAreHeld = (start : State) (events : List Event) → IsStart start
    → (run start events).votes ≡ held (accepted start events)

-- Whatever came, each accepted vote is one for the period, of an authority of the roster.
abbrev pub AcceptedAreWanted : Type 0
AcceptedAreWanted = (start : State) (events : List Event) → IsStart start
    → (vote : ReadVote) → Contains (accepted start events) vote
    → IsWanted start.roster (run start events).valid_after vote

-- Whatever came, what is computed is the consensus of the accepted votes alone. Its texts are `unsigned` of it.
abbrev pub ComputedOfAccepted : Type 0
ComputedOfAccepted = (start : State) (events : List Event) → IsStart start
    → (c : Consensus) → (run start events).computed ≡ Some c
    → c ≡ consensus start.newest (length start.roster) (held (accepted start events))

-- ---- histories

-- Whatever came, the history of what came leads to the same state.
abbrev pub HistoryLeads : Type 0
HistoryLeads = (start : State) (events : List Event) → after start (history start events) ≡ run start events

-- and is one: each entry with its answer.
abbrev pub HistoryIsOne : Type 0
HistoryIsOne = (start : State) (events : List Event) → IsHistory start (history start events)

-- What a history becomes by one more event: it has the event as one more entry where that changed something, and
-- leads to the state after the event.
pub record GoesOn (start : State) (story : List Entry) (event : Event) (entries : List Entry) : Type 0 where
  pub is : IsHistory start (story ++ entries)
  pub leads : after start (story ++ entries) ≡ (step (after start story) event).after

-- Each history goes on by each event.
abbrev pub HistoryGoesOn : Type 0
HistoryGoesOn = (start : State) (story : List Entry) (event : Event) → IsHistory start story
    → GoesOn start story event (option_to_list (entry_if event (step (after start story) event).answer))

-- The front after a history is the number of its entries.
abbrev pub FrontOfHistory : Type 0
FrontOfHistory = (start : State) (story : List Entry) → IsHistory start story
    → (after start story).front ≡ start.front + length story

-- The front is the number of the changes that were made.
abbrev pub FrontCounts : Type 0
FrontCounts = (start : State) (events : List Event)
    → (run start events).front ≡ start.front + length (history start events)

-- ---- two authorities

-- Two authorities with one roster that know the same newest method, to which events came.
pub record AreAlike (one other : State) (events others : List Event) : Type 0 where
  pub first : IsStart one
  pub second : IsStart other
  pub roster : one.roster ≡ other.roster
  pub newest : one.newest ≡ other.newest
  -- the same votes were accepted, in whatever order and however often
  pub same : SameMembers (accepted one events) (accepted other others)

-- Of two authorities that accepted the same votes, no held vote of an authority outranks that which the other holds.
abbrev pub RanksAreOne : Type 0
RanksAreOne = (one other : State) (events others : List Event) → AreAlike one other events others
    → (a b : ReadVote) → Contains (run one events).votes a → Contains (run other others).votes b
    → a.says.identity ≡ b.says.identity
    → (outranks a b ≡ false) × (outranks b a ≡ false)

-- Two authorities that accepted the same votes hold the same votes and compute the same texts, unless two different
-- votes of one authority share a rank.
pub record HoldTheSame (one other : State) : Type 0 where
  pub votes : one.votes ≡ other.votes
  pub texts : (c d : Consensus) → one.computed ≡ Some c → other.computed ≡ Some d → (flavour : Flavour)
      → unsigned flavour c ≡ unsigned flavour d

-- Two states that were given alike events hold the same, where no two accepted votes of an authority share a rank.
abbrev pub PeriodStatesAgree : Type 0
PeriodStatesAgree = (one other : State) (events others : List Event) → AreAlike one other events others
    → RanksApart (accepted one events)
    → HoldTheSame (run one events) (run other others)

-- ---- publication

-- What it takes to publish, and what is then published.
pub record IsPublished (state : State) (now : ℕ) (ns microdesc : Bool) (published : State) : Type 0 where
  pub stage : state.stage ≡ Signed
  pub begun : state.valid_after ≤ now
  pub c : Consensus
  pub computed : state.computed ≡ Some c
  pub some : (ns || microdesc) ≡ true
  pub ns_is : ns ≡ is_signed Ns state
  pub microdesc_is : microdesc ≡ is_signed Microdesc state
  pub ns_text : published.ns_current ≡
      (if ns then Some (signed (unsigned Ns c) (lines_of Ns state)) else state.ns_current)
  pub microdesc_text : published.micro_current ≡
      (if microdesc then Some (signed (unsigned Microdesc c) (lines_of Microdesc state)) else state.micro_current)

-- Published is answered only so.
abbrev pub PublishedIsSigned : Type 0
PublishedIsSigned = (state : State) (now : ℕ) (given : Signing) (ns microdesc : Bool)
    → (advance state now given).answer ≡ moments.Published ns microdesc
    → IsPublished state now ns microdesc (advance state now given).after

-- Where the state is signed, the period has begun and more than half of the roster signed a flavour, it is published.
abbrev pub SignedIsPublished : Type 0
SignedIsPublished = (state : State) (now : ℕ) (given : Signing) (c : Consensus) → state.stage ≡ Signed
    → state.valid_after ≤ now → state.computed ≡ Some c
    → (is_signed Ns state || is_signed Microdesc state) ≡ true
    → (advance state now given).answer ≡ moments.Published (is_signed Ns state) (is_signed Microdesc state)

-- ---- signatures

-- Each thing that comes has a fact, in the state to which it comes.
abbrev pub Along : (State → Event → Type 0) → State → List Event → Type 0
Along Fact state [] = Unit {0}
Along Fact state (event ∷ events) = Fact state event × Along Fact (step state event).after events

-- What comes is signed well: a signature was accepted, and what the signer gave was accepted or refused.
abbrev pub IsSignedWell : Relation → Rules → State → Event → Type 0
IsSignedWell may_give rules state (Offered vote via now) = Unit {0}
IsSignedWell may_give rules state (Advanced now given) = MayGiveAt may_give rules state given
IsSignedWell may_give rules state (SignedIn signature) =
    rules.may_accept key_kind.Signing signature.key signature.digest signature.signature ≡ true
IsSignedWell may_give rules state Read = Unit {0}

-- all that comes is
abbrev pub AreSignedWell : Relation → Rules → State → List Event → Type 0
AreSignedWell may_give rules state events = Along (IsSignedWell may_give rules) state events

-- The signature may be accepted over the digest of what is computed, by the key of its authority's held vote.
pub record IsAccepted (may_accept : Relation) (state : State) (flavour : Flavour) (line : SignatureLine) : Type 0 where
  pub c : Consensus
  pub computed : state.computed ≡ Some c
  pub vote : ReadVote
  pub holds : Contains state.votes vote
  pub authority : vote.says.identity ≡ line.identity
  pub accepted :
      may_accept key_kind.Signing vote.says.certificate.signing_key (digest_of flavour c) line.signature ≡ true

-- Whatever came that is signed well, each signature that is held is so.
abbrev pub LinesAreAccepted : Type 0
LinesAreAccepted = (may_give : Relation) (rules : Rules) (start : State) (events : List Event) → IsStart start
    → AreSignedWell may_give rules start events
    → (flavour : Flavour) (line : SignatureLine) → Contains (lines_of flavour (run start events)) line
    → IsAccepted rules.may_accept (run start events) flavour line

-- ---- what the signer gave

-- What the signer gave is told by the answer and the state after it: it is no choice that they hide.
abbrev pub GivenIsTold : Type 0
GivenIsTold = (state : State) (now : ℕ) (given : Signing)
    → advance state now (given_told (advance state now given).answer (advance state now given).after)
    ≡ advance state now given

-- ---- when there are texts

-- whether a consensus is computed at a stage for sure, and for sure not; at the end of a period it may be either
abbrev pub has_texts : Stage → Bool
has_texts Voting = false
has_texts Frozen = false
has_texts Computed = true
has_texts Signed = true
has_texts Ended = false

abbrev pub has_none : Stage → Bool
has_none Voting = true
has_none Frozen = true
has_none Computed = false
has_none Signed = false
has_none Ended = false

-- A computed or signed authority has a consensus, one that votes or is frozen has none.
pub record HasTextsByStage (state : State) : Type 0 where
  pub some : has_texts state.stage ≡ true → is_some state.computed ≡ true
  pub none : has_none state.stage ≡ true → state.computed ≡ None

-- So it is after whatever came.
abbrev pub TextsStand : Type 0
TextsStand = (start : State) (events : List Event) → IsStart start → HasTextsByStage (run start events)
