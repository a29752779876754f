-- What `serve` answers to an input, and what it asks of what stands outside.
use Rattle.std.specs.Prelude.{◌≡◌, ◌<◌, ◌≤◌, ℕ, Bool, List, ◌∷◌, All, length, Option, Result, Ok, Err, IfErr}
use Rattle.dir_bytes.specs.Causes.{Counts, Rose}
use Rattle.key_port.specs.{Answers.{Relation, Rules}, Signing.SignerSteps}
use Rattle.count_terms.specs.declared.newest.Newest.{Newest}
use Rattle.daemon_words.specs.declared.{command.Measures.Measures, stop.Stop.Stop}
use Rattle.daemon_words.specs.declared.stop.Stop.TheVariants as stop
use Rattle.serve_command.specs.{declared.refusal.ServeRefusal.ServeRefusal, Starting.{RefusesToServe, Starting}}
use Rattle.serve_command.specs.Starting.{StartsAs}
use Rattle.serve_command.specs.declared.refusal.ServeRefusal.TheVariants as refusal
use Rattle.flag_rules.specs.{Rules.{RuleAlike, list_allows}, declared.operator.OperatorRule.OperatorRule}
use Rattle.serve_board.specs.Boards.{IsNew, Locks, Parts}
use Rattle.serve_work.specs.{Serving.Serves, Workers.HasWorked, declared.outside.Outside.Outside}
use Rattle.serve_work.specs.declared.serving.Served.{Served}

-- Workers stand outside, at most 16: as many gates, clocks and verifiers.
pub record HasWorkers {S K E C V N G L : Type 0} (outside : Outside S K E C V N G L) : Type 0 where
  pub some : 0 < length outside.gates.items
  pub few : length outside.gates.items ≤ 16
  pub clocks : length outside.clocks.items ≡ length outside.gates.items
  pub verifiers : length outside.verifiers.items ≡ length outside.gates.items

-- ---- what is answered

-- These are a board of what an authority starts with, and new passes of it, so many.
pub record IsBoardOf (its : Starting) (count : ℕ) (board : Locks) (passes : List Parts) : Type 0 where
  pub state : board.state.start ≡ its.start
  pub pool : board.pool.start ≡ its.pool
  pub new : All (IsNew board) passes
  pub length_is : length passes ≡ count

module _ {N C G : Type 0} (rules : Rules) (gives : Relation) (steps : SignerSteps N) (last : C → ℕ) (faults : G → ℕ)
    (closed : G → Bool) (from : Measures) (newest : Newest) (now : ℕ) (bytes : List ℕ) (gates gates' : List G)
    (old new : Option (List ℕ)) (before after : ℕ) where
  -- An authority started as the input has it, and served under the rules of its station's operator, with a board of its
  -- own and a pass for each gate.
  pub record HasServed (served : Served) : Type 0 where
    pub its : Starting
    pub starts : StartsAs rules from newest now bytes its
    pub rulings : List OperatorRule
    pub alike : RuleAlike its.given.rules rulings
    pub board : Locks
    pub passes : List Parts
    pub is_board : IsBoardOf its (length gates) board passes
    pub serves : Serves faults closed gates gates' rules board
        (HasWorked rules gives steps (list_allows rulings) its.given last board) passes old new before after served

  -- what is answered: how an authority served; or why none started; or there was no memory
  abbrev pub ServeAnswers : Result Served (Stop ServeRefusal) → Type 0
  ServeAnswers (Ok served) = HasServed served
  ServeAnswers (Err (stop.Refused why)) = RefusesToServe rules from newest now bytes why
  ServeAnswers (Err stop.Memory) = Unit {0}

-- ---- what is asked

-- The first clock was asked, and all else is at the moment that it gave. Where nothing was served, no clock was
-- asked more.
pub record AsksClock {C : Type 0} (asks last : C → ℕ) (clocks clocks' : List C) (Is : ℕ → Result Served (Stop ServeRefusal) → Type 0)
    (result : Result Served (Stop ServeRefusal)) : Type 0 where
  pub first : C
  pub others : List C
  pub were : clocks ≡ first ∷ others
  pub clock : C
  pub counts : Counts (asks first) (asks clock)
  pub is : Is (last clock) result
  pub no_more : IfErr result (λ why. clocks' ≡ clock ∷ others)

-- The first verifier alone was asked, and failed exactly where that is told.
pub record AsksFirst {V : Type 0} (faults : V → ℕ) (verifiers verifiers' : List V) (why : Stop ServeRefusal) : Type 0 where
  pub first : V
  pub later : V
  pub others : List V
  pub were : verifiers ≡ first ∷ others
  pub are : verifiers' ≡ later ∷ others
  pub cause : why ≡ stop.Refused refusal.Verifier → Rose (faults first) (faults later)
  pub told : faults first < faults later → why ≡ stop.Refused refusal.Verifier

-- Nothing was served: what stands outside is as it was, but for the clocks and the first verifier.
pub record ServesNone {S K E C V N G L : Type 0} (faults : V → ℕ) (old new : Outside S K E C V N G L) (why : Stop ServeRefusal)
    : Type 0 where
  pub sink : new.sink ≡ old.sink
  pub signer : new.signer ≡ old.signer
  pub gates : new.gates ≡ old.gates
  pub link : new.link ≡ old.link
  pub verifiers : AsksFirst faults old.verifiers.items new.verifiers.items why
