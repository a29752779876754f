-- The next period begins later.
use Rattle.std.proofs.Common.{◌≡◌, ℕ, ◌<◌, Some, subst}
use Rattle.vote_schedule.specs.{Schedules.{Schedule, IsSchedule}, Moments.AnswersNext}
use Rattle.period_terms.{specs.Schedules.next_valid_after, proofs.NextPeriods.next_is_next}

-- the next period begins after this one
pub later : (schedule : Schedule) (after now next : ℕ) → IsSchedule schedule → next_valid_after schedule after now ≡
    Some next
    → after < next
later schedule after now next is e =
    let answer : AnswersNext schedule after now (Some next) =
    subst (λ r. AnswersNext schedule after now r) e (next_is_next schedule after now is) in answer.0.ahead.later
