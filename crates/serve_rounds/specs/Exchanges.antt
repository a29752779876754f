-- What duties asked of the peers, of what was planned (dir-spec, "Voting timeline").
use Rattle.std.specs.Prelude.{◌≡◌, ◌⊎◌, ◌++◌, ◌∷◌, [], ℕ, Bool, true, List, Option, Some, None, IfSome}
use mathlib.Core.List.{IsPrefix}
use Rattle.key_port.specs.{Answers.{Relation, Rules}, Signing.SignerSteps}
use Rattle.flag_rules.specs.declared.{relay.RelayFacts.RelayFacts, ruling.Ruling.Ruling}
use Rattle.station_input.specs.declared.facts.StationFacts.{StationFacts}
use Rattle.vote_schedule.specs.declared.phase.Phase.{Phase}
use Rattle.vote_terms.specs.Votes.{ReadVote}
use Rattle.period_terms.specs.declared.answer.{Advance.TheVariants.Signed, Answer.TheVariants.Moment}
use Rattle.period_terms.specs.declared.{entry.Entry.Entry, name.Name.TheVariants.Vote, state.State.State}
use Rattle.period_terms.specs.{Histories.after, Readings.document_of}
use Rattle.period_laws.specs.Checked.{IsCheckedHistory}
use Rattle.period_lock.specs.Turns.{entries}
use Rattle.checked_sigs.specs.Next.{next_signatures_of}
use Rattle.dir_http.specs.declared.link.LinkAnswer.{LinkAnswer}
use Rattle.serve_board.specs.Boards.{Locks, Parts}
use Rattle.serve_rounds.specs.{declared.round.Round.Round, OwnVotes.{IsOwnVote, IsPeriodOf}, Plans.{Asking, GetVote}}
use Rattle.serve_rounds.specs.Plans.{PostVote, PostSignatures, GetSignatures, Planned, limit_of, request_of}
use Rattle.serve_rounds.specs.Plans.{plan_of_signatures, plan_of_phase, marked_signatures, marked_phase, phase_in}
use Rattle.serve_rounds.specs.{Plans.turned_round, Spans.WasSeen}

-- ---- what is asked of the plan

-- the steps of a link: from what it was, by a peer, a request, a limit and the answer, to what it is
abbrev pub LinkSteps : Type 0 → Type 1
LinkSteps L = L → List ℕ → List ℕ → ℕ → LinkAnswer → L → Type 0

-- At some time between, the state stood so.
pub record StoodSo (rules : Rules) (board : Locks) (from to : Parts) (So : State → Type 0) : Type 0 where
  pub place : List (ℕ × Entry)
  pub seen : WasSeen from.state.seen to.state.seen place
  pub is_story : IsCheckedHistory rules board.state.start (entries place)
  pub so : So (after board.state.start (entries place))

-- The authority signed between: the pass added an advance that answers so.
pub record HasSigned (from to : Parts) : Type 0 where
  pub place : List (ℕ × Entry)
  pub entry : Entry
  pub longer : IsPrefix from.state.seen place
  pub here : IsPrefix (place ++ (from.state.number, entry) ∷ []) to.state.seen
  pub answer : entry.answer ≡ Moment Signed

-- Why something of the plan is asked: of the votes, those of which none was held at some time between.
abbrev pub IsDue : Rules → Locks → Parts → Parts → Asking → Type 0
IsDue rules board from to (GetVote authority) =
    StoodSo rules board from to (λ state. document_of state (Vote authority) ≡ None)
IsDue rules board from to (PostVote text) = Unit {0}
IsDue rules board from to (PostSignatures text) = Unit {0}
IsDue rules board from to GetSignatures = Unit {0}

-- whatever is asked
abbrev pub Whatever : Asking → Type 0
Whatever asking = Unit {0}

-- One exchange was made with this request, or none.
abbrev pub MayAsk : {L : Type 0} → LinkSteps L → List ℕ → List ℕ → ℕ → L → L → Type 0
MayAsk steps peer request limit old new =
    (new ≡ old) ⊎ ((answer : LinkAnswer) × steps old peer request limit answer new)

-- Of a plan some was asked, in its order, each once, and where it was due; and nothing else.
abbrev pub AsksSome : {L : Type 0} → LinkSteps L → (Asking → Type 0) → List Planned → L → L → Type 0
AsksSome steps Due [] old new = new ≡ old
AsksSome {L} steps Due (one ∷ plan) old new =
    AsksSome steps Due plan old new
    ⊎ ((between : L) × (answer : LinkAnswer) × Due one.1
    × steps old one.0 (request_of one.1) (limit_of one.1) answer between × AsksSome steps Due plan between new)

-- The text is that of the own vote, as it was made at this moment, for this period and of the pool that stood between.
pub record IsOwnText {N : Type 0} (rules : Rules) (gives : Relation) (steps : SignerSteps N)
    (allows : RelayFacts → Ruling → Bool) (station : StationFacts) (board : Locks) (from to : Parts)
    (valid_after now : ℕ) (text : List ℕ) : Type 0 where
  pub vote : ReadVote
  pub own : IsOwnVote rules gives steps allows station board from to valid_after now vote
  pub same : own.text ≡ text

-- What is asked of the peers, and marked, of the signatures that are held.
pub record BringsSignatures {L : Type 0} (rules : Rules) (station : StationFacts) (board : Locks)
    (exchanges : LinkSteps L) (from to : Parts) (before then : Round) (old new : L) : Type 0 where
  pub held : Option (List ℕ)
  pub are_held : IfSome held (λ text. StoodSo rules board from to (λ state. next_signatures_of state ≡ Some text))
  pub asked : AsksSome exchanges (IsDue rules board from to) (plan_of_signatures station held before) old new
  pub marks : then ≡ marked_signatures held before

-- What is asked of the peers, and marked, in a phase; the own vote, where one was made, is one of the round's period.
pub record DoesPhase {N L : Type 0} (rules : Rules) (gives : Relation) (steps : SignerSteps N)
    (allows : RelayFacts → Ruling → Bool) (station : StationFacts) (board : Locks) (exchanges : LinkSteps L)
    (from to : Parts) (phase : Phase) (now : ℕ) (before then : Round) (old new : L) : Type 0 where
  pub vote : Option (List ℕ)
  pub is_own :
      IfSome vote (λ text. IsOwnText rules gives steps allows station board from to before.valid_after now text)
  pub asked : AsksSome exchanges (IsDue rules board from to) (plan_of_phase station vote phase before) old new
  pub marks : then ≡ marked_phase vote phase before

-- What duties ask of the peers at a moment, and mark as done, where the authority signed at that moment or not: the
-- round is turned to a period that the board was in between; first the signatures that are held are brought, and then
-- comes what the phase asks for.
pub record AsksAs {N L : Type 0} (rules : Rules) (gives : Relation) (steps : SignerSteps N)
    (allows : RelayFacts → Ruling → Bool) (station : StationFacts) (board : Locks) (exchanges : LinkSteps L)
    (from to : Parts) (now : ℕ) (signed : Bool) (before then : Round) (old new : L) : Type 0 where
  pub valid_after : ℕ
  pub period : IsPeriodOf rules board from to valid_after
  pub marked : Round
  pub between : L
  pub brings :
      BringsSignatures rules station board exchanges from to (turned_round valid_after signed before) marked old between
  pub does :
      DoesPhase rules gives steps allows station board exchanges from to (phase_in station valid_after now) now marked
      then between new

-- The same, where the authority signed only where that is an entry that the pass added between.
pub record AsksPeers {N L : Type 0} (rules : Rules) (gives : Relation) (steps : SignerSteps N)
    (allows : RelayFacts → Ruling → Bool) (station : StationFacts) (board : Locks) (exchanges : LinkSteps L)
    (from to : Parts) (now : ℕ) (before then : Round) (old new : L) : Type 0 where
  pub signed : Bool
  pub signs : signed ≡ true → HasSigned from to
  pub asks : AsksAs rules gives steps allows station board exchanges from to now signed before then old new
