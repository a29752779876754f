-- The next period, as the definitions have it, is the one that the schedule's relation names.
use Rattle.std.proofs.Common.{◌≡◌, ℕ, ◌+◌, ◌*◌, ◌≤◌, ◌<◌, Bool, true, false, nat_le, cond, Option, Some, None, refl, ap}
use Rattle.std.{proofs.{Common.arith, lemmas.Bool.{leb-true, leb-false}}, specs.Prelude.max}
use Rattle.dir_bytes.specs.Causes.{last_moment}
use Rattle.vote_schedule.specs.{Schedules.{Schedule, IsSchedule}, Moments.{IsNext, AnswersNext, valid_until}}
use Rattle.vote_schedule.proofs.Multiples.{next_as_answered}
use Rattle.period_terms.specs.Schedules.{multiple_from, next_begin, NextIsNext}

-- the first begin is the least multiple that serves
begin_is_next : (s : Schedule) (after now : ℕ) → IsSchedule s → IsNext s after now (next_begin s after now)
unfolding multiple_from
begin_is_next s after now is =
    next_as_answered s after now (max (after + 1) (now + s.dist + s.vote)) s.interval s.dist s.vote refl refl refl
    (omega (arith, is.long)) refl

-- the same moment is the only one that is next
only_one : (s : Schedule) (after now v w : ℕ) → IsNext s after now v → IsNext s after now w → v ≡ w
only_one s after now v w n m = omega (arith, n.least w m.ahead, m.least v n.ahead)

next_by : (b : Bool) (s : Schedule) (after now v : ℕ) → IsNext s after now v → nat_le (valid_until s v) last_moment ≡ b
    → AnswersNext s after now (cond b (Some v) None)
next_by true s after now v n e = (n, leb-true _ _ e)
next_by false s after now v n e = λ w m. omega (arith, leb-false _ _ e, only_one s after now v w n m)

-- what the definitions say is next is so
pub next_is_next : NextIsNext
next_is_next s after now is = next_by _ s after now (next_begin s after now) (begin_is_next s after now is) refl

-- and it is the only answer
pub answers_one : (s : Schedule) (after now : ℕ) (one other : Option ℕ) → AnswersNext s after now one
    → AnswersNext s after now other → one ≡ other
answers_one s after now None None a b = refl
answers_one s after now (Some v) None a b = absurd (omega (arith, a.1, b v a.0))
answers_one s after now None (Some w) a b = absurd (omega (arith, b.1, a w b.0))
answers_one s after now (Some v) (Some w) a b = ap Some (only_one s after now v w a.0 b.0)
