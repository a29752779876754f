-- Schedules: how often a consensus is made, and how long its votes and its signatures are waited for (dir-spec, "Voting
-- timeline"; the limits are own).
use Rattle.std.specs.Prelude.{◌≡◌, ◌==◌, ℕ, ◌+◌, ◌*◌, ◌%◌, ◌≤◌, ◌<◌, nat_lt, nat_le, not, ◌||◌, Result, Ok, Err}
use Rattle.std.specs.Prelude.{if◌then◌else◌}
use Rattle.vote_schedule.specs.declared.config.ScheduleFault.{ScheduleFault, TheVariants.{Interval, ShortDelay}}
use Rattle.vote_schedule.specs.declared.config.ScheduleFault.TheVariants.{LongDelays, ShortLife}

-- three numbers of seconds: between two consensuses, for votes, for signatures
pub record Schedule : Type 0 where
  pub interval : ℕ
  pub vote : ℕ
  pub dist : ℕ

-- a day
abbrev pub day : ℕ
day = 86400

-- the schedule of three numbers, or the first reason why they are none
abbrev pub schedule_of : ℕ → ℕ → ℕ → Result Schedule ScheduleFault
schedule_of interval vote dist =
    if interval == 0 || not (day % interval == 0) then Err Interval
    else if nat_lt vote 20 || nat_lt dist 20 then Err ShortDelay
    else if nat_le interval (2 * (vote + dist)) then Err LongDelays
    else if nat_lt interval 300 then Err ShortLife
    else Ok (record { interval = interval; vote = vote; dist = dist })

-- What a schedule is.
pub record IsSchedule (schedule : Schedule) : Type 0 where
  pub long : 300 ≤ schedule.interval
  pub divides : day % schedule.interval ≡ 0
  pub vote : 20 ≤ schedule.vote
  pub dist : 20 ≤ schedule.dist
  pub delays : 2 * (schedule.vote + schedule.dist) < schedule.interval
  pub short : schedule.interval ≤ day
