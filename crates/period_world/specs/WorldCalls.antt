-- Calls at the states of several authorities, one after the other (dir-spec, "Exchanging detached signatures").
use Rattle.std.specs.Prelude.{◌≡◌, ℕ, Bool, true, List, [], ◌∷◌, ◌++◌, Option, Some, Ok, if◌then◌else◌}
use Rattle.dir_values.specs.{declared.digest.Fingerprint.Fingerprint, Digests.same_identity}
use Rattle.key_port.specs.Answers.{Relation, Rules}
use Rattle.period_terms.specs.{declared.{answer.Answer.Answer, state.State.State}, Histories.IsStart}
use Rattle.count_terms.specs.declared.newest.Newest.{Newest}
use Rattle.vote_schedule.specs.Schedules.{Schedule}
use Rattle.period_core.specs.Starting.{Starts}
use Rattle.period_laws.specs.Worlds.{World, WorldEvent, SignedDigest, signed_by, is_among, moved_world}
use Rattle.period_laws.specs.Worlds.{signed_elsewhere, run_world, IsWorldStart}
use Rattle.period_world.specs.{declared.coming.Coming.TheVariants.{Vote, Moment, Signature}, Calls.{Arrival, TakesOne}}
use Rattle.period_world.specs.Calls.{TakesAll}

-- a call at the state of a member: what came, the answer, and the state after it
pub record Call : Type 0 where
  pub member : Fingerprint
  pub coming : Arrival
  pub answer : Answer
  pub after : State

-- What may be told of a world.
pub data Happening : Type 0 where
  -- a call was made at the state of a member
  Called : (call : Call) → Happening
  -- a member without a state signed
  Alone : (signed : SignedDigest) → Happening

-- Whether something may come where this was signed: a signature only where its authority signed that digest for that
-- flavour and period.
abbrev pub may_arrive : List SignedDigest → Arrival → Bool
may_arrive signed (Vote vote via now) = true
may_arrive signed (Moment now) = true
may_arrive signed (Signature signature) =
    is_among signed (signed_by signature.authority signature.flavour signature.valid_after signature.digest)

-- The call was made at this state of the world, of what may come there.
pub record IsCall (may_give : Relation) (rules : Rules) (world : World) (call : Call) (state : State) : Type 0 where
  pub period_state : world.states call.member ≡ Some state
  pub may : may_arrive world.signed call.coming ≡ true
  pub takes : TakesOne may_give rules state call.coming call.answer call.after

-- the world after a call at this state
abbrev pub called_world : World → Call → State → World
called_world world call state = moved_world world call.member state (record { answer = call.answer; after = call.after })

-- What is told leads from a world to this one.
abbrev pub LeadsTo : Relation → Rules → World → Happening → World → Type 0
LeadsTo may_give rules world (Called call) next =
    (state : State) × IsCall may_give rules world call state × (next ≡ called_world world call state)
LeadsTo may_give rules world (Alone one) next = next ≡ signed_elsewhere world one

-- All that is told, one after the other, leads from a world to this one.
abbrev pub Lead : Relation → Rules → World → List Happening → World → Type 0
Lead may_give rules world [] end = end ≡ world
Lead may_give rules world (one ∷ happenings) end =
    (next : World) × LeadsTo may_give rules world one next × Lead may_give rules next happenings end

-- Of each world in which a member's state was this, what comes to it where it may leads on to the world
-- after it.
abbrev pub LeadsOn : Relation → Rules → State → Arrival → Answer → State → Type 0
LeadsOn may_give rules old coming answer new = (world : World) (member : Fingerprint)
    → world.states member ≡ Some old → may_arrive world.signed coming ≡ true
    → let call : Call = record { member = member; coming = coming; answer = answer; after = new } in
    LeadsTo may_give rules world (Called call) (called_world world call old)

-- ---- the laws

-- A member of the roster began in this state, as `begin` says it.
pub record HasBegun (roster : List Fingerprint) (member : Fingerprint) (state : State) : Type 0 where
  pub newest : Newest
  pub schedule : Schedule
  pub now : ℕ
  pub starts : Starts roster member newest schedule now (Ok state)
  pub start : IsStart state

-- States of one roster that began are the start of a world.
abbrev pub BegunAreWorlds : Type 0
BegunAreWorlds = (roster : List Fingerprint) (states : Fingerprint → Option State)
    → ((member : Fingerprint) (state : State) → states member ≡ Some state → HasBegun roster member state)
    → IsWorldStart (record { roster = roster; states = states; signed = []; published = [] })

-- The world is one to which some events lead.
pub record IsReached (world end : World) : Type 0 where
  pub events : List WorldEvent
  pub reached : end ≡ run_world world events

-- Where calls lead from a world, events of a world lead.
abbrev pub CallsAreWorlds : Type 0
CallsAreWorlds = (may_give : Relation) (rules : Rules) (world end : World) (happenings : List Happening)
    → Lead may_give rules world happenings end → IsReached world end

-- what came to a member's state by this
abbrev pub arrival_in : Fingerprint → Happening → List Arrival
arrival_in member (Called call) = if same_identity member call.member then call.coming ∷ [] else []
arrival_in member (Alone one) = []

-- what came to a member's state
abbrev pub arrivals_at : Fingerprint → List Happening → List Arrival
arrivals_at member [] = []
arrivals_at member (one ∷ happenings) = arrival_in member one ++ arrivals_at member happenings

-- what a member's state answered to this
abbrev pub answer_in : Fingerprint → Happening → List Answer
answer_in member (Called call) = if same_identity member call.member then call.answer ∷ [] else []
answer_in member (Alone one) = []

-- what a member's state answered
abbrev pub answers_at : Fingerprint → List Happening → List Answer
answers_at member [] = []
answers_at member (one ∷ happenings) = answer_in member one ++ answers_at member happenings

-- A member's state took what came to it as a list, and the state after it is this.
pub record TookAll (may_give : Relation) (rules : Rules) (member : Fingerprint) (old : State)
    (happenings : List Happening) (end : World) : Type 0 where
  pub state : State
  pub period_state : end.states member ≡ Some state
  pub takes : TakesAll may_give rules old (arrivals_at member happenings) (answers_at member happenings) state

-- Whatever calls were made at other states, the state of a member took what came to it as it does alone.
abbrev pub PeriodStatesTakeAll : Type 0
PeriodStatesTakeAll = (may_give : Relation) (rules : Rules) (world end : World) (happenings : List Happening)
    → Lead may_give rules world happenings end → (member : Fingerprint) (old : State)
    → world.states member ≡ Some old → TookAll may_give rules member old happenings end
