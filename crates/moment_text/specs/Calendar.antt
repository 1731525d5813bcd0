-- The day of the calendar that lies a number of days after 1 January 2000.

use Rattle.std.specs.Prelude.{◌≡◌, ℕ, zero, suc, ◌+◌, ◌-◌, nat_lt, if◌then◌else◌, pos, ◌+ℤ◌}
use Rattle.jiff_core.specs.Calendar.{days_in_year, days_in_month, days_from_civil, IsCivilDate}
use Rattle.moment_text.specs.declared.writing.Day.{Day}

-- Spans of these lengths lie end to end, from the one with this number on. The number of the one in
-- which a place lies, among the next few, and the place in it.
unfoldable pub span_at : (ℕ → ℕ) → ℕ → ℕ → ℕ → ℕ × ℕ
span_at length zero number place = (number, place)
span_at length (suc few) number place =
    if nat_lt place (length number) then (number, place)
    else span_at length few (suc number) (place - length number)

-- of a place in a year: the month in which it lies, and the day of it, counted from 1
unfoldable pub day_in_year : ℕ × ℕ → Day
day_in_year place =
    let found = span_at (days_in_month (pos place.0)) 12 1 place.1 in
    record { year = place.0; month = found.0; day = found.1 + 1 }

-- the day so many days after 1 January 2000, among those of that many years
unfoldable pub day_within : ℕ → ℕ → Day
day_within years days = day_in_year (span_at (λ year. days_in_year (pos year)) years 2000 days)

-- the same, of the years 2000 to 9999
abbrev pub day_after : ℕ → Day
day_after = day_within 8000

-- the calendar has the day, and it lies so many days after 1 January 2000
pub record LiesAfter (days : ℕ) (d : Day) : Type 0 where
  pub real : IsCivilDate (pos d.year) d.month d.day
  pub placed : days_from_civil (pos d.year) d.month d.day
      ≡ days_from_civil (pos 2000) 1 1 +ℤ pos days
