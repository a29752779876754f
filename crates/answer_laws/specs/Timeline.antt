-- The moments of a period in their order (dir-spec, "Voting timeline").
use Rattle.std.specs.Prelude.{◌≡◌, ◌↔◌, ℕ, ◌+◌, ◌≤◌, ◌<◌, Ok}
use Rattle.vote_schedule.specs.Moments.{fetching_begins, freeze, phase_of, upload_cutoff, voting_begins}
use Rattle.vote_schedule.specs.{Schedules.{IsSchedule, Schedule, schedule_of}, declared.phase.Phase.Phase}
use Rattle.vote_schedule.specs.declared.phase.Phase.TheVariants as phase

-- Three numbers that are answered with a schedule are one, which is these three.
abbrev pub SchedulesAreSuch : Type 0
SchedulesAreSuch = (interval vote dist : ℕ) (s : Schedule) → schedule_of interval vote dist ≡ Ok s
    → (s ≡ record { interval = interval; vote = vote; dist = dist }) × IsSchedule s

-- The moments of the period that begins then, each later than the one before.
pub record Ascend (s : Schedule) (valid_after : ℕ) : Type 0 where
  pub votes : voting_begins s valid_after < upload_cutoff s valid_after
  pub uploads : upload_cutoff s valid_after < freeze s valid_after
  pub signing : freeze s valid_after < fetching_begins s valid_after
  pub fetching : fetching_begins s valid_after < valid_after

-- So they are where both delays fit before the period begins.
abbrev pub MomentsAscend : Type 0
MomentsAscend = (s : Schedule) (valid_after : ℕ) → IsSchedule s → s.dist + s.vote ≤ valid_after
    → Ascend s valid_after

-- between which moments of the period each phase stands
abbrev pub IsPhase : Schedule → ℕ → ℕ → Phase → Type 0
IsPhase s valid_after now phase.Waiting = now < voting_begins s valid_after
IsPhase s valid_after now phase.Voting = (voting_begins s valid_after ≤ now) × (now < upload_cutoff s valid_after)
IsPhase s valid_after now phase.Fetching = (upload_cutoff s valid_after ≤ now) × (now < freeze s valid_after)
IsPhase s valid_after now phase.Signing = (freeze s valid_after ≤ now) × (now < fetching_begins s valid_after)
IsPhase s valid_after now phase.FetchingSignatures = (fetching_begins s valid_after ≤ now) × (now < valid_after)
IsPhase s valid_after now phase.Past = valid_after ≤ now

-- A moment is in a phase exactly where it stands between that phase's moments.
abbrev pub PhasesAreBetween : Type 0
PhasesAreBetween = (s : Schedule) (valid_after now : ℕ) (is : Phase) → IsSchedule s → s.dist + s.vote ≤ valid_after
    → (phase_of s valid_after now ≡ is) ↔ IsPhase s valid_after now is
