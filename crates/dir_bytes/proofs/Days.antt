-- The date so many days after 1970-01-01 is the one that has this day number.
use Rattle.std.proofs.Common.{◌≡◌, ℕ, zero, suc, ◌+◌, ◌<◌, ◌≤◌, inl, inr, refl, sym, ◌∙◌, arith, rules, pos, ◌/◌, ◌%◌}
use Rattle.std.proofs.{Common.{◌∷◌, length, length-append}, lemmas.Bool.{cases_lt, lt-ltb, le-ltb}}
use Rattle.jiff_core.specs.{declared.civil.date.Date.Date, Calendar.{days_in_month, days_from_civil, IsCivilDate}}
use Rattle.jiff_core.{specs.Date.epoch_day, proofs.{SignedLemmas.signed_arith, CalendarLemmas.days_in_month_bounds}}
use Rattle.jiff_core.proofs.DateLemmas.{days_from_civil-day, days_from_civil-next_month, days_from_civil-next_year}
use Rattle.jiff_core.proofs.{DateLemmas.{days_from_civil-max, epoch_day_injective}, StandardFacts.known_days}
use Rattle.dir_bytes.specs.FieldTexts.{CivilDate, day_after, date_of, date_text, clock_text, moment_text}

-- the date is one of the calendar from 1970 on, and has this day number
pub record IsDay (date : CivilDate) (n : ℕ) : Type 0 where
  pub late : 1970 ≤ date.year
  pub real : IsCivilDate (pos date.year) date.month date.day
  pub number : days_from_civil (pos date.year) date.month date.day ≡ pos n

-- December has 31 days
december : (y : ℕ) → days_in_month (pos y) 12 ≡ 31
december y = refl

-- only 9999-12-31 has day number 2932896
before_the_end : (y n : ℕ) → y ≤ 9999 → days_from_civil (pos y) 12 31 ≡ pos n → n < 2_932_896 → y < 9999
before_the_end y n small is less =
    elim (cases_lt y 9999) [
      | inl lt ↦ lt
      | inr ge ↦
          let e : y ≡ 9999 = omega arith in
          let end : pos 2_932_896 ≡ pos n = sym days_from_civil-max ∙ (rw e at is) in
          absurd (omega (arith, signed_arith, end))
    ]

-- the day after a date has the next number
in_month : (date : CivilDate) (n : ℕ) → IsDay date n → date.day < days_in_month (pos date.year) date.month
    → IsDay (record { year = date.year; month = date.month; day = date.day + 1 }) (suc n)
in_month date n h lt =
    let step = days_from_civil-day (pos date.year) date.month date.day (date.day + 1) h.real.2.0 (omega arith) in
    record {
      late = h.late;
      real = (h.real.0, h.real.1, (omega arith, omega arith));
      number = omega (arith, signed_arith, step, h.number);
    }

in_year : (date : CivilDate) (n : ℕ) → IsDay date n → date.day ≡ days_in_month (pos date.year) date.month → date.month < 12
    → IsDay (record { year = date.year; month = date.month + 1; day = 1 }) (suc n)
in_year date n h last lt =
    let step = days_from_civil-next_month (pos date.year) date.month date.day h.real.1.0 last in
    let long = days_in_month_bounds (pos date.year) (date.month + 1) in
    record {
      late = h.late;
      real = (h.real.0, (omega arith, omega arith), (omega arith, omega (arith, long)));
      number = omega (arith, signed_arith, step, h.number);
    }

next_year : (date : CivilDate) (n : ℕ) → n < 2_932_896 → IsDay date n → date.month ≡ 12 → date.day ≡ 31
    → IsDay (record { year = date.year + 1; month = 1; day = 1 }) (suc n)
next_year date n less h month day =
    let here : days_from_civil (pos date.year) 12 31 ≡ pos n = rw (month, day) at h.number in
    let small : date.year ≤ 9999 = omega (arith, signed_arith, h.real.0) in
    let more = before_the_end date.year n small here less in
    let step = days_from_civil-next_year (pos date.year) (pos (date.year + 1)) (omega (arith, signed_arith)) (omega (arith, signed_arith)) in
    record {
      late = omega (arith, h.late);
      real = (omega (arith, signed_arith), (omega arith, omega arith), (omega arith, omega arith));
      number = omega (arith, signed_arith, step, here);
    }

pub day_after_is : (date : CivilDate) (n : ℕ) → n < 2_932_896 → IsDay date n → IsDay (day_after date) (suc n)
day_after_is date n less h =
    elim (cases_lt date.day (days_in_month (pos date.year) date.month)) [
      | inl lt ↦ rw (lt-ltb date.day (days_in_month (pos date.year) date.month) lt) (in_month date n h lt)
      | inr ge ↦
          let last : date.day ≡ days_in_month (pos date.year) date.month = omega (arith, h.real.2) in
          elim (cases_lt date.month 12) [
            | inl lt ↦ rw (le-ltb date.day (days_in_month (pos date.year) date.month) ge, lt-ltb date.month 12 lt) (in_year date n h last lt)
            | inr end ↦
                let month : date.month ≡ 12 = omega (arith, h.real.1) in
                let day : date.day ≡ 31 = rw month at last ∙ december date.year in
                rw (le-ltb date.day (days_in_month (pos date.year) date.month) ge, le-ltb date.month 12 end) (next_year date n less h month day)
          ]
    ]

pub date_of_is : (n : ℕ) → n ≤ 2_932_896 → IsDay (date_of n) n
unfolding date_of
date_of_is zero within = record { late = omega arith; real = search rules; number = known_days.0 }
date_of_is (suc n) within = day_after_is (date_of n) n (omega arith) (date_of_is n (omega arith))

-- a date of jiff's with this day number has its year, month and day
pub date_of_only : (date : Date) (n : ℕ) → n ≤ 2_932_896 → epoch_day date ≡ pos n
    → (date.year ≡ pos (date_of n).year) × (date.month ≡ (date_of n).month) × (date.day ≡ (date_of n).day)
date_of_only date n within is =
    let day = date_of_is n within in
    epoch_day_injective date (record { year = pos (date_of n).year; month = (date_of n).month; day = (date_of n).day; year_in = day.real.0; month_in = day.real.1; day_in = day.real.2 }) (is ∙ sym day.number)

-- a date has ten bytes, a time of day eight, and a moment both and a space
pub length-date_text : (n : ℕ) → length (date_text n) ≡ 10
unfolding date_text
length-date_text n = refl

pub length-clock_text : (n : ℕ) → length (clock_text n) ≡ 8
unfolding clock_text
length-clock_text n = refl

pub length-moment_text : (m : ℕ) → length (moment_text m) ≡ 19
length-moment_text m =
    let date = length-date_text (m / 86400) in
    let clock = length-clock_text (m % 86400) in
    omega (arith, length-append (date_text (m / 86400)) (32 ∷ clock_text (m % 86400)))

pub ruleset days = (date_of_only, length-moment_text)
