-- Three numbers that pass the tests of a schedule are one.
use Rattle.std.proofs.Common.{◌≡◌, ◌==◌, ℕ, ◌+◌, ◌*◌, ◌%◌, ◌<◌, ◌≤◌, ◌⊎◌, Bool, true, false, ◌||◌, Result, Ok, Err}
use Rattle.std.proofs.{Common.{refl, sym, ap, ◌∙◌, subst, ⊎_elim, inl, inr, arith}, Math.Nat.mod-eq_of_lt}
use Rattle.std.{proofs.lemmas.Bool.{or_parts, Decides.nat_tests}, specs.Prelude.{nat_le, nat_lt, not}}
use Rattle.vote_schedule.specs.Schedules.{IsSchedule, Schedule, day, schedule_of}
use Rattle.vote_schedule.specs.declared.config.ScheduleFault.{ScheduleFault}
use Rattle.answer_laws.specs.Timeline.{SchedulesAreSuch}

unnot : (p : Bool) → not p ≡ false → p ≡ true
unnot true h = refl
unnot false h = absurd cc

either_way : (b : Bool) (i : ℕ) → nat_le i day ≡ b → (i ≤ day) ⊎ (day < i)
either_way true i e = inl (grind (arith, nat_tests, e))
either_way false i e = inr (grind (arith, nat_tests, e))

-- an interval that divides a day is no longer than one
within_day : (i : ℕ) → day % i ≡ 0 → i ≤ day
within_day i divides =
    ⊎_elim (λ (le : i ≤ day). le)
    (λ (lt : day < i). let none : day ≡ 0 = sym (mod-eq_of_lt lt) ∙ divides in absurd (omega (arith, none)))
    (either_way _ i refl)

tested : (i v d : ℕ) → (i == 0 || not (day % i == 0)) ≡ false → (nat_lt v 20 || nat_lt d 20) ≡ false
    → nat_le i (2 * (v + d)) ≡ false → nat_lt i 300 ≡ false
    → IsSchedule (record { interval = i; vote = v; dist = d })
tested i v d f g h k =
    let divides = unnot (day % i == 0) (or_parts (i == 0) (not (day % i == 0)) f).1 in
    let delays = or_parts (nat_lt v 20) (nat_lt d 20) g in
    let none : day % i ≡ 0 = grind (arith, nat_tests, divides) in
    record {
      long = grind (arith, nat_tests, k);
      divides = none;
      vote = grind (arith, nat_tests, delays.0);
      dist = grind (arith, nat_tests, delays.1);
      delays = grind (arith, nat_tests, h);
      short = within_day i none;
    }

-- what was answered
abbrev given : Schedule → Result Schedule ScheduleFault → Schedule
given other (Ok s) = s
given other (Err why) = other

such_by : (a b c e : Bool) (i v d : ℕ) (s : Schedule) → (i == 0 || not (day % i == 0)) ≡ a
    → (nat_lt v 20 || nat_lt d 20) ≡ b → nat_le i (2 * (v + d)) ≡ c → nat_lt i 300 ≡ e
    → schedule_of i v d ≡ Ok s → (s ≡ record { interval = i; vote = v; dist = d }) × IsSchedule s
such_by true b c e i v d s f g h k is = let wrong = rw f at is in absurd cc
such_by false true c e i v d s f g h k is = let wrong = rw (f, g) at is in absurd cc
such_by false false true e i v d s f g h k is = let wrong = rw (f, g, h) at is in absurd cc
such_by false false false true i v d s f g h k is = let wrong = rw (f, g, h, k) at is in absurd cc
such_by false false false false i v d s f g h k is =
    let answer = rw (f, g, h, k) at is in
    let same : s ≡ record { interval = i; vote = v; dist = d } = sym (ap (given s) answer) in
    (same, subst IsSchedule (sym same) (tested i v d f g h k))

pub schedules_such : SchedulesAreSuch
schedules_such i v d s is = such_by _ _ _ _ i v d s refl refl refl refl is
