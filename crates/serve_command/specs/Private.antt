-- What the private functions of this crate say.
use Rattle.std.specs.Prelude.{◌≡◌, ◌≤◌, ℕ, List, All, length}
use Rattle.key_port.specs.Answers.{Rules}
use Rattle.flag_rules.specs.{Rules.RuleAlike, declared.operator.OperatorRule.OperatorRule}
use Rattle.count_terms.specs.declared.newest.Newest.{Newest}
use Rattle.daemon_words.specs.declared.{command.Measures.Measures, stop.Stop.Stop}
use Rattle.daemon_words.specs.declared.stop.Stop.TheVariants as stop
use Rattle.serve_command.specs.{declared.refusal.ServeRefusal.ServeRefusal, Serving.IsBoardOf, Starting.CanBegin}
use Rattle.serve_command.specs.Starting.{IsStartOf, StandsIn, Starting, StartsAs}
use Rattle.station_input.specs.declared.facts.StationFacts.{StationFacts}
use Rattle.vote_pool.specs.Pools.{Pooled}
use Rattle.vote_schedule.specs.Schedules.{IsSchedule, Schedule}
use Rattle.vote_maker.specs.Made.{schedule_in}
use Rattle.period_terms.specs.Histories.{IsStart}
use Rattle.serve_board.specs.Boards.{IsAt, IsNew, Locks, Parts}

-- a call stopped for a reason of this kind, or there was no memory
abbrev pub StopsFor : (ServeRefusal → Type 0) → Stop ServeRefusal → Type 0
StopsFor Refuses stop.Memory = Unit {0}
StopsFor Refuses (stop.Refused why) = Refuses why

-- What was read is what a station is given, and stands within the input.
pub record IsReadIn (from : Measures) (newest : Newest) (now : ℕ) (bytes : List ℕ) (given : StationFacts)
    (used : ℕ) : Type 0 where
  pub stands : StandsIn from newest now bytes given used
  pub within : used ≤ length bytes

-- An authority can begin with this pool by this schedule.
pub record CanBeginBy (rules : Rules) (now : ℕ) (given : StationFacts) (used : ℕ) (bytes : List ℕ) (schedule : Schedule)
    (pool : Pooled) : Type 0 where
  pub can : CanBegin rules now given used bytes pool
  pub schedule_is : schedule ≡ schedule_in given
  pub times : IsSchedule schedule

-- Rulings, board and passes are of an authority that can begin by what its station is given, and all passes of the board
-- are there.
pub record IsOpened (rules : Rules) (now : ℕ) (given : StationFacts) (used : ℕ) (bytes : List ℕ) (count : ℕ)
    (rulings : List OperatorRule) (board : Locks) (passes : List Parts) : Type 0 where
  pub alike : RuleAlike given.rules rulings
  pub begins : CanBegin rules now given used bytes board.pool.start
  pub start_is : IsStartOf given now board.state.start
  pub is_start : IsStart board.state.start
  pub new : All (IsNew board) passes
  pub length_is : length passes ≡ count
  pub at : All (IsAt board) passes
  pub states : board.state.passes ≤ length passes
  pub pools : board.pool.passes ≤ length passes

-- what an authority of this station starts with, whose board this is
abbrev pub starting_of : StationFacts → Locks → Starting
starting_of given board = record { given = given; start = board.state.start; pool = board.pool.start }

-- Station, rulings, board and passes are of an authority that starts as the input has it, and all passes of the board are
-- there.
pub record IsReady (rules : Rules) (from : Measures) (newest : Newest) (now : ℕ) (bytes : List ℕ) (count : ℕ)
    (given : StationFacts) (rulings : List OperatorRule) (board : Locks) (passes : List Parts) : Type 0 where
  pub starts : StartsAs rules from newest now bytes (starting_of given board)
  pub alike : RuleAlike given.rules rulings
  pub is_board : IsBoardOf (starting_of given board) count board passes
  pub at : All (IsAt board) passes
  pub states : board.state.passes ≤ length passes
  pub pools : board.pool.passes ≤ length passes
