-- What starting an authority answers.
use Rattle.std.specs.Prelude.{◌≡◌, ◌<◌, ◌≤◌, ℕ, true, false, List, Option, Some, None, Result, Ok, Err}
use Rattle.dir_bytes.specs.Causes.{last_moment}
use Rattle.count_terms.specs.declared.newest.Newest.{Newest}
use Rattle.dir_values.specs.{declared.digest.Fingerprint.Fingerprint, Rosters.has_member}
use Rattle.vote_schedule.specs.Schedules.{Schedule}
use Rattle.period_terms.specs.{declared.state.State.State, Schedules.next_valid_after, Histories.start_in}
use Rattle.period_core.specs.declared.state.StartFault.{StartFault, TheVariants.{OwnNotInRoster, EndOfTime, Memory}}

-- a moment that is answered is later than this one, and within the calendar
abbrev pub IsLater : ℕ → Option ℕ → Type 0
IsLater after (Some next) = (after < next) × (next ≤ last_moment)
IsLater after None = Unit {0}

-- it begins in the next period, or the roster lacks it, or there is no next period
abbrev pub Starts : List Fingerprint → Fingerprint → Newest → Schedule → ℕ → Result State StartFault → Type 0
Starts roster own newest schedule now (Ok state) =
    (has_member roster own ≡ true) × ((valid_after : ℕ) × (next_valid_after schedule 0 now ≡ Some valid_after)
    × (state ≡ start_in roster own newest schedule valid_after))
Starts roster own newest schedule now (Err OwnNotInRoster) = has_member roster own ≡ false
Starts roster own newest schedule now (Err EndOfTime) = (has_member roster own ≡ true)
    × (next_valid_after schedule 0 now ≡ None)
Starts roster own newest schedule now (Err Memory) = Unit {0}
