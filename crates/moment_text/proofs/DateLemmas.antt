-- A date that a TOML text can write is a day of the calendar, and lies in a range of days.

use Rattle.std.proofs.Common.{◌≡◌, ℕ, ◌+◌, ◌*◌, ◌<◌, ◌≤◌, true, ◌&&◌, nat_lt, nat_le, refl, arith, ℤ, pos, negsuc, ◌+ℤ◌, ◌-ℤ◌, ◌*ℤ◌}
use Rattle.std.proofs.lemmas.Bool.{and_parts}
use Rattle.std.proofs.lemmas.Bool.Decides.{nat_tests}
use Rattle.toml_datetime.specs.declared.datetime.Date.{Date}
use Rattle.toml_datetime.specs.declared.datetime.Time.{Time}
use Rattle.toml_datetime.specs.Valid.{is_valid, is_valid_date, is_valid_time, is_valid_offset, is_valid_parts, is_none_or_below, days_in_month as days_here}
use Rattle.moment_text.specs.Moments.{in_utc, minutes_ahead}
use Rattle.moment_text.proofs.CalendarLemmas.{day_count-2000}
use Rattle.toml_datetime.specs.declared.datetime.Offset.{Offset}
use Rattle.toml_datetime.specs.declared.datetime.Datetime.{Datetime}
use Rattle.toml_datetime.specs.declared.datetime.Offset.TheVariants.{Custom}
use Rattle.std.proofs.Common.{Some, is_some, not, ◌||◌}
use Rattle.std.proofs.Common.{min, w64, to_z, of_z, FitsSigned, ◌^◌}
use Rattle.std.proofs.lemmas.Int.{to_z-of_z}
use Rattle.jiff_core.specs.Calendar.{IsWithin, days_in_month, days_from_civil}
use Rattle.jiff_core.proofs.SignedLemmas.{signed_arith}
use Rattle.jiff_core.proofs.CalendarLemmas.{days_from_civil-day_count}

-- both calendars have months of the same length
days_in_month-same : (year month : ℕ) → days_here year month ≡ days_in_month (pos year) month
days_in_month-same year month = refl

pub record Real (d : Date) : Type 0 where
  pub year : d.year < 10000
  pub first_month : 1 ≤ d.month
  pub last_month : d.month ≤ 12
  pub first_day : 1 ≤ d.day
  pub last_day : d.day ≤ days_in_month (pos d.year) d.month

pub real : (d : Date) → is_valid_date d ≡ true → Real d
unfolding is_valid_date
real d h =
    let year_test = nat_lt d.year 10000 in
    let month_test = nat_le 1 d.month && nat_le d.month 12 in
    let day_test = nat_le 1 d.day && nat_le d.day (days_here d.year d.month) in
    let both = and_parts (year_test && month_test) day_test h in
    let front = and_parts year_test month_test both.0 in
    let months = and_parts (nat_le 1 d.month) (nat_le d.month 12) front.1 in
    let days = and_parts (nat_le 1 d.day) (nat_le d.day (days_here d.year d.month)) both.1 in
    record {
      year = grind (arith, nat_tests, front.0);
      first_month = grind (arith, nat_tests, months.0);
      last_month = grind (arith, nat_tests, months.1);
      first_day = grind (arith, nat_tests, days.0);
      last_day = grind (arith, nat_tests, days.1);
    }

pub record RealTime (t : Time) : Type 0 where
  pub hour : t.hour < 24
  pub minute : t.minute < 60
  pub fraction : is_none_or_below t.nanosecond 1_000_000_000 ≡ true

pub real_time : (t : Time) → is_valid_time t ≡ true → RealTime t
unfolding is_valid_time
real_time t h =
    let clock = nat_lt t.hour 24 && nat_lt t.minute 60 in
    let parts = is_none_or_below t.second 61 && is_none_or_below t.nanosecond 1_000_000_000 in
    let some = is_some t.second || not (is_some t.nanosecond) in
    let both = and_parts clock (parts && some) h in
    let front = and_parts (nat_lt t.hour 24) (nat_lt t.minute 60) both.0 in
    let rest = and_parts parts some both.1 in
    let here = and_parts (is_none_or_below t.second 61) (is_none_or_below t.nanosecond 1_000_000_000) rest.0 in
    record {
      hour = grind (arith, nat_tests, front.0);
      minute = grind (arith, nat_tests, front.1);
      fraction = here.1;
    }

-- the parts of a date-time that a text can write
pub valid_parts : (date : Date) (time : Time) (offset : Offset) → is_valid_parts (Some date) (Some time) (Some offset) ≡ true
    → (is_valid_date date ≡ true) × RealTime time × (is_valid_offset offset ≡ true)
valid_parts date time offset h =
    let both = and_parts (is_valid_date date) (is_valid_time time && is_valid_offset offset) h in
    let rest = and_parts (is_valid_time time) (is_valid_offset offset) both.1 in
    (both.0, real_time time rest.0, rest.1)

pub days_from_civil-2000 : days_from_civil (pos 2000) 1 1 ≡ pos 10_957
days_from_civil-2000 = omega (arith, signed_arith, days_from_civil-day_count (pos 2000) 1 1, day_count-2000)

-- local time less the offset, with days counted from the first day that the calendar has
pub in_utc-is : (date : Date) (time : Time) (ms : ℕ) (offset : Offset) (days : ℕ)
    → days_from_civil (pos date.year) date.month date.day +ℤ pos 4_371_587 ≡ pos days
    → in_utc date time ms offset
    ≡ pos (days * 86_400_000 + (time.hour * 3_600_000 + time.minute * 60_000 + ms)) -ℤ pos 378_651_801_600_000 -ℤ minutes_ahead offset *ℤ pos 60_000
in_utc-is date time ms offset days placed = rw days_from_civil-2000 (omega (arith, signed_arith))

pub offset_bound : (minutes : ℤ) → is_valid_offset (Custom minutes) ≡ true → IsWithin 1440 minutes
unfolding is_valid_offset
offset_bound (pos minutes) h = let few : minutes < 1440 = grind (arith, nat_tests) in (omega (arith, signed_arith), omega (arith, signed_arith))
offset_bound (negsuc minutes) h = let few : minutes + 1 < 1440 = grind (arith, nat_tests) in (omega (arith, signed_arith), omega (arith, signed_arith))

-- a day of the calendar stays as it is where days past the end of its month are cut
pub constrained : (date : Date) (year : ℤ) (day : ℕ) → year ≡ pos date.year → day ≡ min date.day (days_in_month year date.month) → Real date
    → days_from_civil year date.month day ≡ days_from_civil (pos date.year) date.month date.day
constrained date year day same cut r =
    let last = r.last_day in
    let days : day ≡ date.day = omega (arith, rw same at cut) in
    rw (same, days) refl

pub all_parts : (when : Datetime) (date : Date) (time : Time) (offset : Offset) → is_valid when ≡ true
    → when.date ≡ Some date → when.time ≡ Some time → when.offset ≡ Some offset
    → (is_valid_date date ≡ true) × RealTime time × (is_valid_offset offset ≡ true)
unfolding is_valid
all_parts when date time offset h d t o = valid_parts date time offset (rw (d, t, o) at h)

-- the code's signed sum doesn't leave 64 bits
pub in_64_bits : (local start : ℕ) (ahead : ℤ) → local < 2 ^ 60 → start < 2 ^ 60 → IsWithin 1440 ahead
    → to_z w64 (of_z w64 (to_z w64 (of_z w64 (to_z w64 local -ℤ pos start)) -ℤ to_z w64 (of_z w64 (to_z w64 (of_z w64 ahead) *ℤ pos 60_000))))
    ≡ pos local -ℤ pos start -ℤ ahead *ℤ pos 60_000
in_64_bits local start ahead low small within =
    let least = within.0 in
    let most = within.1 in
    let zero : FitsSigned w64 ahead = omega (arith, signed_arith) in
    let one : FitsSigned w64 (pos local) = omega (arith, signed_arith) in
    let two : FitsSigned w64 (pos local -ℤ pos start) = omega (arith, signed_arith) in
    let three : FitsSigned w64 (ahead *ℤ pos 60_000) = omega (arith, signed_arith) in
    let four : FitsSigned w64 (pos local -ℤ pos start -ℤ ahead *ℤ pos 60_000) = omega (arith, signed_arith) in
    let first : to_z w64 local ≡ pos local = to_z-of_z w64 (pos local) one in
    rw (first, to_z-of_z w64 (pos local -ℤ pos start) two, to_z-of_z w64 ahead zero, to_z-of_z w64 (ahead *ℤ pos 60_000) three)
    (to_z-of_z w64 (pos local -ℤ pos start -ℤ ahead *ℤ pos 60_000) four)
