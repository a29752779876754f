-- The state in which an authority begins is a start.
use Rattle.std.proofs.Common.{◌≡◌, ℕ, List, Result, Ok, Err, refl, IfOk}
use Rattle.count_terms.specs.declared.newest.Newest.{Newest}
use Rattle.dir_values.specs.{declared.digest.Fingerprint.Fingerprint, Rosters.IsRoster}
use Rattle.vote_schedule.specs.Schedules.{Schedule, IsSchedule}
use Rattle.period_terms.specs.{declared.state.State.State, Histories.IsStart}
use Rattle.period_core.specs.{declared.state.StartFault.StartFault, Starting.Starts}

pub starts_so : (roster : List Fingerprint) (own : Fingerprint) (newest : Newest) (schedule : Schedule) (now : ℕ)
    (result : Result State StartFault) → IsRoster roster → IsSchedule schedule
    → Starts roster own newest schedule now result
    → IfOk result (λ state. IsStart state)
starts_so roster own newest schedule now (Ok state) members times starts = rw starts.1.2 (record {
  members = members;
  member = starts.0;
  times = times;
  now = now;
  next = starts.1.1;
  empty = refl;
})
starts_so roster own newest schedule now (Err fault) members times starts = tt
