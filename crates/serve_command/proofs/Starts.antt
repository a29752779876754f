-- What an authority starts with, call by call.
use Rattle.std.{proofs.Common.{◌≡◌, ℕ, List, length, Some, None, Ok, refl, sym, subst, ◌∙◌, arith}, specs.Prelude.◌≢◌}
use Rattle.std.specs.Prelude.{All}
use Rattle.dir_values.specs.{declared.digest.Fingerprint.Fingerprint, Rosters.IsRoster}
use Rattle.key_port.specs.Answers.{Rules}
use Rattle.authority_certs.specs.Checks.{IsCertified}
use Rattle.count_terms.specs.declared.newest.Newest.{Newest}
use Rattle.daemon_words.specs.declared.command.Measures.{Measures}
use Rattle.flag_rules.specs.{Rules.RuleAlike, declared.operator.OperatorRule.OperatorRule}
use Rattle.station_input.specs.declared.facts.StationFacts.{StationFacts}
use Rattle.vote_pool.specs.Pools.{Pooled}
use Rattle.vote_schedule.specs.{Schedules.{IsSchedule, Schedule}, Moments.AnswersNext}
use Rattle.vote_maker.specs.Made.{basis, schedule_in}
use Rattle.period_terms.specs.{Histories.IsStart, Schedules.next_valid_after, declared.state.State.State}
use Rattle.period_terms.proofs.NextPeriods.{answers_one, next_is_next}
use Rattle.period_core.specs.Starting.{Starts}
use Rattle.serve_board.specs.Boards.{IsAt, IsNew, Locks, Parts}
use Rattle.station_commands.specs.Voting.{HasPool}
use Rattle.serve_command.specs.{Private.{CanBeginBy, IsOpened, IsReadIn, IsReady}, Starting.{CanBegin, IsStartOf}}

-- the next period can begin
pub period_ahead : (rules : Rules) (now : ℕ) (given : StationFacts) (used : ℕ) (bytes : List ℕ) (schedule : Schedule)
    (pool : Pooled) → CanBeginBy rules now given used bytes schedule pool
    → next_valid_after (schedule_in given) 0 now ≢ None
period_ahead rules now given used bytes schedule pool can none =
    let its = can.can.its in
    let is : IsSchedule (schedule_in given) = subst IsSchedule can.schedule_is can.times in
    let next : Some its.valid_after ≡ next_valid_after (schedule_in given) 0 now =
    answers_one (schedule_in given) 0 now (Some its.valid_after) (next_valid_after (schedule_in given) 0 now)
    (can.can.basis.next, can.can.basis.life) (next_is_next (schedule_in given) 0 now is) in
    let clash : Some its.valid_after ≡ None = next ∙ none in
    cc clash

-- an authority can begin
pub can_begin : (rules : Rules) (now : ℕ) (given : StationFacts) (used : ℕ) (bytes : List ℕ) (schedule : Schedule)
    (pool : Pooled) (valid_after : ℕ) → HasPool rules given used bytes pool → schedule ≡ schedule_in given
    → IsSchedule schedule → AnswersNext schedule 0 now (Some valid_after) → IsCertified rules valid_after given.certificate
    → CanBeginBy rules now given used bytes schedule pool
can_begin rules now given used bytes schedule pool valid_after has same times next certified =
    let there = subst (λ (s : Schedule). AnswersNext s 0 now (Some valid_after)) same next in
    record {
      can = record {
        its = basis given pool.descriptors valid_after now;
        basis = record {
          pool = pool;
          has_pool = has;
          station_is = refl;
          descriptors_are = refl;
          next = there.0;
          life = there.1;
          moment_is = refl;
        };
        pool_is = refl;
        certified = certified;
      };
      schedule_is = same;
      times = times;
    }

-- the state in which an authority starts is a start
pub is_start : (roster : List Fingerprint) (own : Fingerprint) (newest : Newest) (schedule : Schedule) (now : ℕ)
    (state : State)
    → IsRoster roster → IsSchedule schedule → Starts roster own newest schedule now (Ok state) → IsStart state
is_start roster own newest schedule now state members times starts = rw starts.1.2 (record {
  members = members;
  member = starts.0;
  times = times;
  now = now;
  next = starts.1.1;
  empty = refl;
})

-- a board of what an authority begins with
pub is_opened : (rules : Rules) (now : ℕ) (bytes : List ℕ) (count : ℕ) (given : StationFacts) (used : ℕ)
    (schedule : Schedule) (start : State) (pool : Pooled) (rulings : List OperatorRule) (board : Locks)
    (passes : List Parts) → CanBeginBy rules now given used bytes schedule pool → IsStartOf given now start
    → IsStart start → RuleAlike given.rules rulings → (board.state.start ≡ start) × (board.pool.start ≡ pool)
    → (board.state.passes ≡ count) × (board.pool.passes ≡ count) × (length passes ≡ count)
    → All (IsNew board) passes → All (IsAt board) passes
    → IsOpened rules now given used bytes count rulings board passes
is_opened rules now bytes count given used schedule start pool rulings board passes can starts begins alike begun counts
    new at =
    record {
      alike = alike;
      begins = subst (λ (p : Pooled). CanBegin rules now given used bytes p) (sym begun.1) can.can;
      start_is = subst (λ (s : State). IsStartOf given now s) (sym begun.0) starts;
      is_start = subst (λ (s : State). IsStart s) (sym begun.0) begins;
      new = new;
      length_is = counts.2;
      at = at;
      states = omega (arith, counts.0, counts.2);
      pools = omega (arith, counts.1, counts.2);
    }

-- board and passes are ready
pub is_ready : (rules : Rules) (from : Measures) (newest : Newest) (now : ℕ) (bytes : List ℕ) (count : ℕ)
    (given : StationFacts)
    (used : ℕ) (rulings : List OperatorRule) (board : Locks) (passes : List Parts)
    → IsReadIn from newest now bytes given used → IsOpened rules now given used bytes count rulings board passes
    → IsReady rules from newest now bytes count given rulings board passes
is_ready rules from newest now bytes count given used rulings board passes reads opened =
    record {
      starts = record {
        used = used;
        stands = reads.stands;
        begins = opened.begins;
        start_is = opened.start_is;
        is_start = opened.is_start;
      };
      alike = opened.alike;
      is_board = record { state = refl; pool = refl; new = opened.new; length_is = opened.length_is };
      at = opened.at;
      states = opened.states;
      pools = opened.pools;
    }
