-- What is answered, from what was made ready and how it served.
use Rattle.std.{proofs.Common.{◌≡◌, ℕ, List, length, Ok, Err, subst}, specs.Prelude.{Bool, Option}}
use Rattle.key_port.specs.{Answers.{Relation, Rules}, Signing.SignerSteps}
use Rattle.count_terms.specs.declared.newest.Newest.{Newest}
use Rattle.daemon_words.specs.declared.{command.Measures.Measures, stop.Stop.Stop}
use Rattle.daemon_words.specs.declared.stop.Stop.TheVariants as stop
use Rattle.serve_command.specs.{declared.refusal.ServeRefusal.ServeRefusal, Private.{IsReady, StopsFor, starting_of}}
use Rattle.serve_command.specs.{Serving.{IsBoardOf, ServeAnswers}, Starting.RefusesToServe}
use Rattle.flag_rules.specs.{Rules.list_allows, declared.operator.OperatorRule.OperatorRule}
use Rattle.station_input.specs.declared.facts.StationFacts.{StationFacts}
use Rattle.serve_board.specs.Boards.{Locks, Parts}
use Rattle.serve_work.specs.{Serving.Serves, Workers.HasWorked, declared.serving.Served.Served}

module _ (rules : Rules) (from : Measures) (newest : Newest) (now : ℕ) (bytes : List ℕ) where
  module _ {N C G : Type 0} (gives : Relation) (steps : SignerSteps N) (last : C → ℕ) (faults : G → ℕ)
      (closed : G → Bool) (gates gates' : List G) (old new : Option (List ℕ)) (before after : ℕ) where
    -- none started
    pub none_started : (why : Stop ServeRefusal) → StopsFor (RefusesToServe rules from newest now bytes) why
        → ServeAnswers rules gives steps last faults closed from newest now bytes gates gates' old new before after
        (Err why)
    none_started stop.Memory is = tt
    none_started (stop.Refused why) is = is

    -- one served
    pub has_served : (count : ℕ) (given : StationFacts) (rulings : List OperatorRule) (board : Locks)
        (passes : List Parts) (served : Served)
        → IsReady rules from newest now bytes count given rulings board passes → count ≡ length gates
        → Serves faults closed gates gates' rules board
        (HasWorked rules gives steps (list_allows rulings) given last board) passes old new before after served
        → ServeAnswers rules gives steps last faults closed from newest now bytes gates gates' old new before after
        (Ok served)
    has_served count given rulings board passes served ready same serves = record {
      its = starting_of given board;
      starts = ready.starts;
      rulings = rulings;
      alike = ready.alike;
      board = board;
      passes = passes;
      is_board = subst (λ n. IsBoardOf (starting_of given board) n board passes) same ready.is_board;
      serves = serves;
    }
