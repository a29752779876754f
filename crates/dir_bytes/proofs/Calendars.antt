-- Dates of the calendar from 1970 on, and their day numbers.
use Rattle.std.proofs.Common.{◌≡◌, ℕ, ◌≤◌, inl, inr, ◌∙◌, arith, ℤ, pos, unsigned_abs, w8, w16, w32, to_z, of_z, Some}
use Rattle.std.proofs.lemmas.{Int.{to_z-of_z, to_z_pos, ints}, Bool.{cases_eq, Decides.nat_tests}}
use Rattle.std.specs.Prelude.{FitsSigned}
use Rattle.jiff_core.specs.{declared.civil.date.Date.Date, Calendar.{days_from_civil, day_count, IsCivilDate}}
use Rattle.jiff_core.{specs.Date.{epoch_day, IsYmd}, proofs.{SignedLemmas.{signed_arith, one_part}, DateLemmas.civil}}
use Rattle.jiff_core.proofs.CalendarLemmas.{days_from_civil-day_count, day_count-epoch, day_count-lt_year}
use Rattle.jiff_core.proofs.CalendarLemmas.{day_count-day_of_year, day_count_bounds}
use Rattle.dir_bytes.specs.Fields.{day_of}

-- 1970-01-01 is the first of them
day_count_from_1970 : (y m d : ℕ) → 1970 ≤ y → IsCivilDate (pos y) m d → 4_371_953 ≤ day_count (pos y) m d
day_count_from_1970 y m d late h =
    elim (cases_eq y 1970) [
      | inl e ↦ rw e (omega (arith, day_count-epoch, day_count-day_of_year (pos 1970) m d h.2.0, h.2.0))
      | inr other ↦ omega (arith, day_count-epoch, day_count-lt_year (pos 1970) 1 1 (pos y) m d (omega (arith, signed_arith), omega arith, omega arith) h.2.0 (omega (arith, signed_arith)))
    ]

-- a date from 1970 on has a day number, up to that of 9999-12-31
pub day_number : (y m d : ℕ) → 1970 ≤ y → IsCivilDate (pos y) m d
    → (days_from_civil (pos y) m d ≡ pos (unsigned_abs (days_from_civil (pos y) m d))) × (unsigned_abs (days_from_civil (pos y) m d) ≤ 2_932_896)
day_number y m d late h =
    let low = day_count_from_1970 y m d late h in
    let high = day_count_bounds (pos y) m d h in
    let count = days_from_civil-day_count (pos y) m d in
    let part = one_part (days_from_civil (pos y) m d) in
    (omega (arith, signed_arith, count, low, part), omega (arith, signed_arith, count, low, high, part))

pub day_of-real : (y m d : ℕ) → 1970 ≤ y → IsCivilDate (pos y) m d → day_of y m d ≡ Some (unsigned_abs (days_from_civil (pos y) m d))
unfolding day_of
day_of-real y m d late real = grind (arith, nat_tests)

-- the same of a date of jiff's with this year, month and day, and its day number
pub day_of-date : (y m d : ℕ) (date : Date) (number : ℤ) → 1970 ≤ y → IsYmd (pos y) (pos m) (pos d) date → number ≡ epoch_day date
    → (day_of y m d ≡ Some (unsigned_abs number)) × (number ≡ pos (unsigned_abs number)) × (unsigned_abs number ≤ 2_932_896)
day_of-date y m d date number late parts is =
    let year : date.year ≡ pos y = parts.0 in
    let month : date.month ≡ m = cc parts.1 in
    let day : date.day ≡ d = cc parts.2 in
    let real : IsCivilDate (pos y) m d = rw (year, month, day) at (civil date) in
    let same : number ≡ days_from_civil (pos y) m d = rw (year, month, day) at is in
    let bounds = day_number y m d late real in
    rw same (day_of-real y m d late real, bounds.0, bounds.1)

-- the same in the widths of the code
pub day_of-cast : (y m d : ℕ) (date : Date) (number : ℤ) → 1970 ≤ y → (y ≤ 9999) × (m ≤ 99) × (d ≤ 99)
    → IsYmd (to_z w16 y) (to_z w8 m) (to_z w8 d) date → number ≡ epoch_day date
    → (day_of y m d ≡ Some (unsigned_abs (to_z w32 (of_z w32 number)))) × (to_z w32 (of_z w32 number) ≡ pos (unsigned_abs number)) × (unsigned_abs number ≤ 2_932_896)
day_of-cast y m d date number late small parts is =
    let year : to_z w16 y ≡ pos y = to_z_pos w16 y (omega (arith, small)) in
    let month : to_z w8 m ≡ pos m = to_z_pos w8 m (omega (arith, small)) in
    let day : to_z w8 d ≡ pos d = to_z_pos w8 d (omega (arith, small)) in
    let facts = day_of-date y m d date number late (rw (year, month, day) at parts) is in
    let fits : FitsSigned w32 number = rw facts.1 (omega (arith, ints, facts.2)) in
    let same = to_z-of_z w32 number fits in
    (rw same facts.0, same ∙ facts.1, facts.2)
