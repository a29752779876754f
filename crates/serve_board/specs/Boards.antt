-- Boards and their passes, and what one event says.
use Rattle.std.specs.Prelude.{◌≡◌, ◌+◌, ℕ, List, map, length, Option, Some, None, Result, Ok, Err}
use Rattle.dir_bytes.specs.declared.fault.Memory.{Memory}
use Rattle.key_port.specs.Answers.{Relation, Rules}
use Rattle.descriptor_doc.specs.declared.descriptor.Descriptor.{Descriptor}
use Rattle.vote_pool.specs.{declared.answers.Keep.Keep, Pools.{Pooled, answer_to}}
use Rattle.period_lock.specs.Turns.{Lock, Knowledge, IsOf, EndsIn, newcomer, entries}
use Rattle.period_terms.specs.declared.answer.{Advance.Advance, Answer.{Answer, TheVariants.Moment}, Offer.Offer}
use Rattle.period_terms.specs.declared.{answer.SignIn.SignIn, entry.Entry.Entry, event.Event.Event}
use Rattle.period_terms.specs.declared.{event.{Event.TheVariants.Advanced, Signing.Signing}, state.State.State}
use Rattle.period_terms.specs.{Advances.MayGiveAt, Histories.{after, entry_if}, Steps.step}
use Rattle.period_terms.specs.declared.answer.Offer.TheVariants as offers
use Rattle.period_terms.specs.declared.answer.SignIn.TheVariants as signs
use Rattle.period_laws.specs.Checked.{IsCheckedHistory}
use Rattle.serve_board.specs.{Stocks.{stock_after, AreKept, kept_if}, Turns.{Stands, TakesEvent, TakesReading}}
use Rattle.serve_board.specs.Turns.{AnswersThere}

-- a board: its two locks
pub record Locks : Type 0 where
  pub state : Lock State
  pub pool : Lock Pooled

-- a pass of a board: what is known at each lock
pub record Parts : Type 0 where
  pub state : Knowledge State Entry
  pub pool : Knowledge Pooled Descriptor

-- the answer of a state to an event
abbrev pub answer_at : State → Event → Answer
answer_at state event = (step state event).answer

-- what an event finds at a state, and that its entry may come there
abbrev pub StepsThere : Rules → Event → State → List Entry → Answer → Type 0
StepsThere rules event start story answer =
    AnswersThere after (IsCheckedHistory rules) answer_at entry_if event start story answer

-- The pass is of the board.
pub record IsAt (board : Locks) (pass : Parts) : Type 0 where
  pub state : IsOf board.state pass.state
  pub pool : IsOf board.pool pass.pool

-- Passes of two locks that have seen nothing, with one number.
pub record IsPair (state : Lock State) (pool : Lock Pooled) (pass : Parts) : Type 0 where
  pub here : pass.state ≡ newcomer state pass.state.number
  pub there : pass.pool ≡ newcomer pool pass.state.number

-- A pass of the board that has seen nothing, with one number at both locks.
abbrev pub IsNew : Locks → Parts → Type 0
IsNew board pass = IsPair board.state board.pool pass

module _ (rules : Rules) (board : Locks) (before then : Parts) where
  -- One event of the pass at the state's lock: the answer is that of the state after one list, whose events were
  -- checked before they came, as this was.
  pub record Makes (event : Event) (answer : Answer) : Type 0 where
    pub takes :
        TakesEvent after (IsCheckedHistory rules) answer_at entry_if event board.state before.state then.state
        answer
    pub pool : then.pool ≡ before.pool

  -- One reading of the pass at the state's lock.
  pub record Sees {A : Type 0} (right : State → A → Type 0) (answer : A) : Type 0 where
    pub takes : TakesReading after (IsCheckedHistory rules) right board.state before.state then.state answer
    pub pool : then.pool ≡ before.pool

  -- One advance: an event with something that the signer may give there.
  pub record Moves (may_give : Relation) (now : ℕ) (answer : Advance) : Type 0 where
    pub given : Signing
    pub makes : Makes (Advanced now given) (Moment answer)
    pub may : MayGiveAt may_give rules (after board.state.start (entries makes.takes.story)) given

  -- An advance, or there was no memory and nothing was changed.
  abbrev pub Advances : Relation → ℕ → Result Advance Memory → Type 0
  Advances may_give now (Ok answer) = Moves may_give now answer
  Advances may_give now (Err fault) = Sees (λ state answer. Unit {0}) fault

  -- One descriptor that is kept, or not: the answer is that of the pool after one list, whose descriptors were checked
  -- before they came, as this was.
  pub record Stores (descriptor : Descriptor) (answer : Keep) : Type 0 where
    pub takes :
        TakesEvent stock_after (AreKept rules) answer_to kept_if descriptor board.pool before.pool then.pool answer
    pub state : then.state ≡ before.state

  -- One reading of the pass at the pool's lock.
  pub record Looks {A : Type 0} (right : Pooled → A → Type 0) (answer : A) : Type 0 where
    pub takes : TakesReading stock_after (AreKept rules) right board.pool before.pool then.pool answer
    pub state : then.state ≡ before.state

-- the number of the change that an offered vote made
abbrev pub position_of_offer : Offer → Option ℕ
position_of_offer (offers.OtherPeriod valid_after) = None
position_of_offer (offers.Stranger authority) = None
position_of_offer (offers.Late now cutoff frozen) = None
position_of_offer (offers.Have held) = None
position_of_offer (offers.Older held) = None
position_of_offer offers.Full = None
position_of_offer (offers.Kept position) = Some position
position_of_offer (offers.Replaced position old) = Some position

-- the number of the change that an offered signature made
abbrev pub position_of_sign_in : SignIn → Option ℕ
position_of_sign_in (signs.OtherPeriod valid_after) = None
position_of_sign_in signs.NotComputed = None
position_of_sign_in (signs.OtherDigest ours) = None
position_of_sign_in (signs.Stranger authority) = None
position_of_sign_in signs.Have = None
position_of_sign_in signs.Closed = None
position_of_sign_in (signs.Kept position) = Some position

-- the number of a change, if there is one, is this
abbrev pub IsNumber : ℕ → Option ℕ → Type 0
IsNumber number None = Unit {0}
IsNumber number (Some position) = position ≡ number

-- The number of a change is that of all changes before the board's start, and of those that the pass has then seen.
abbrev pub IsPlace : Locks → Parts → Option ℕ → Type 0
IsPlace board then position = IsNumber (board.state.start.front + length then.state.seen) position

-- What a closed board leaves: the state and the pool each stand for one list, which begins with what each pass has
-- seen, and whose entries are those of the passes, each once; each event and each descriptor was checked before it came.
pub record Leaves (rules : Rules) (board : Locks) (passes : List Parts) (left : State) (kept : Pooled) : Type 0 where
  pub state : EndsIn (Stands after (IsCheckedHistory rules)) board.state (map (λ p. p.state) passes) left
  pub pool : EndsIn (Stands stock_after (AreKept rules)) board.pool (map (λ p. p.pool) passes) kept
