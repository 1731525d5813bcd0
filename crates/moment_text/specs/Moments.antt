-- The moment that a TOML date-time stands for. A moment is a number of milliseconds since the start
-- of the year 2000 in UTC, as DTN time counts them (RFC 9171, section 4.2.6).

use Rattle.std.specs.Prelude.{ℕ, ◌+◌, ◌*◌, ◌/◌, ◌%◌, ◌&&◌, ◌==◌, nat_lt, if◌then◌else◌}
use Rattle.std.specs.Prelude.{ℤ, pos, negsuc, ◌+ℤ◌, ◌-ℤ◌, ◌*ℤ◌, Option, Some, None, unwrap_or}
use Rattle.std.specs.Prelude.{option_and_then}
use Rattle.jiff_core.specs.Calendar.{days_from_civil}
use Rattle.toml_datetime.specs.declared.datetime.Date.{Date}
use Rattle.toml_datetime.specs.declared.datetime.Time.{Time}
use Rattle.toml_datetime.specs.declared.datetime.Offset.{Offset}
use Rattle.toml_datetime.specs.declared.datetime.Offset.TheVariants.{Z, Custom}
use Rattle.toml_datetime.specs.declared.datetime.Datetime.{Datetime}
use Rattle.toml_datetime.specs.Valid.{is_valid}

-- the first moment of the year 10000
abbrev pub year_10000 : ℕ
year_10000 = 252_455_616_000_000

-- the days from 1 January 2000 to a day of the calendar, below zero where it is before
abbrev pub days_since_2000 : Date → ℤ
days_since_2000 date =
    days_from_civil (pos date.year) date.month date.day -ℤ days_from_civil (pos 2000) 1 1

-- the milliseconds of a time's seconds and their fraction: the seconds are there and below 60, and
-- the fraction is of whole milliseconds
abbrev pub seconds_ms : Option ℕ → Option ℕ → Option ℕ
seconds_ms None nanoseconds = None
seconds_ms (Some seconds) nanoseconds =
    if nat_lt seconds 60 && unwrap_or nanoseconds 0 % 1_000_000 == 0
    then Some (seconds * 1000 + unwrap_or nanoseconds 0 / 1_000_000)
    else None

-- the minutes by which local time is ahead of UTC
abbrev pub minutes_ahead : Offset → ℤ
minutes_ahead Z = pos 0
minutes_ahead (Custom minutes) = minutes

-- the milliseconds since 2000 in UTC, of a local day, its hour and minute, the milliseconds of the
-- minute, and the offset
abbrev pub in_utc : Date → Time → ℕ → Offset → ℤ
in_utc date time ms offset =
    days_since_2000 date *ℤ pos 86_400_000
    +ℤ pos (time.hour * 3_600_000 + time.minute * 60_000 + ms)
    -ℤ minutes_ahead offset *ℤ pos 60_000

-- of the years 2000 to 9999
abbrev pub in_years : ℤ → Option ℕ
in_years (pos ms) = if nat_lt ms year_10000 then Some ms else None
in_years (negsuc ms) = None

-- all three parts are there: a local date-time, a date or a time has no moment
abbrev pub moment_of_parts : Option Date → Option Time → Option Offset → Option ℕ
moment_of_parts (Some date) (Some time) (Some offset) =
    option_and_then (λ ms. in_years (in_utc date time ms offset))
    (seconds_ms time.second time.nanosecond)
moment_of_parts _ _ _ = None

-- the moment of a date-time that a TOML text can write
unfoldable pub moment_of : Datetime → Option ℕ
moment_of when =
    if is_valid when then moment_of_parts when.date when.time when.offset else None
