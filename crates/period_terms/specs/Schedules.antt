-- The moments of a period (dir-spec, "Voting timeline").
use Rattle.std.specs.Prelude.{ℕ, ◌+◌, ◌-◌, ◌*◌, ◌/◌, nat_le, max, Option, Some, None, if◌then◌else◌}
use Rattle.dir_bytes.specs.Causes.{last_moment}
use Rattle.vote_schedule.specs.{Schedules.{Schedule, IsSchedule}, Moments.{freeze, upload_cutoff, valid_until}}
use Rattle.vote_schedule.specs.Moments.{AnswersNext}
use Rattle.period_terms.specs.declared.event.Via.{Via, TheVariants.{Upload, Fetched, Own}}

-- the least multiple of an interval that is no less than a number
unfoldable pub multiple_from : ℕ → ℕ → ℕ
multiple_from interval number = (number + (interval - 1)) / interval * interval

-- the first begin of a period after a moment, for which votes may still be exchanged at another
abbrev pub next_begin : Schedule → ℕ → ℕ → ℕ
next_begin schedule after now = multiple_from schedule.interval (max (after + 1) (now + schedule.dist + schedule.vote))

-- the next begin of a period, where what is computed for it stays valid within the calendar
abbrev pub next_valid_after : Schedule → ℕ → ℕ → Option ℕ
next_valid_after schedule after now =
    if nat_le (valid_until schedule (next_begin schedule after now)) last_moment
    then Some (next_begin schedule after now) else None

-- It is the least begin that serves, or that would pass the calendar.
abbrev pub NextIsNext : Type 0
NextIsNext = (schedule : Schedule) (after now : ℕ) → IsSchedule schedule
    → AnswersNext schedule after now (next_valid_after schedule after now)

-- the moment from which a vote that comes this way is late: for an upload the time for uploads ends before the freeze
abbrev pub cutoff_of : Via → Schedule → ℕ → ℕ
cutoff_of Upload schedule valid_after = upload_cutoff schedule valid_after
cutoff_of Fetched schedule valid_after = freeze schedule valid_after
cutoff_of Own schedule valid_after = freeze schedule valid_after
