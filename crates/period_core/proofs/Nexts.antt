-- The next period that the schedule answers is that of the definitions.
use Rattle.std.proofs.Common.{◌≡◌, ℕ, Option, Some, None, arith}
use Rattle.vote_schedule.specs.{Schedules.{Schedule, IsSchedule}, Moments.AnswersNext}
use Rattle.period_terms.{specs.Schedules.next_valid_after, proofs.NextPeriods.{next_is_next, answers_one}}
use Rattle.period_core.specs.Starting.{IsLater}

pub next_value : (s : Schedule) (after now : ℕ) (result : Option ℕ) → IsSchedule s → AnswersNext s after now result
    → result ≡ next_valid_after s after now
next_value s after now result is a =
    answers_one s after now result (next_valid_after s after now) a (next_is_next s after now is)

pub next_later : (s : Schedule) (after now : ℕ) (result : Option ℕ) → IsSchedule s → AnswersNext s after now result
    → IsLater after result
next_later s after now None is a = tt
next_later s after now (Some next) is a = (a.0.ahead.later, omega (arith, a.1))
