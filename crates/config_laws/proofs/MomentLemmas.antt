-- The text of a moment is read as a date-time, and its moment is the one that was written.

use Rattle.std.proofs.Common.{◌≡◌, ℕ, ◌+◌, ◌-◌, ◌*◌, ◌/◌, ◌%◌, ◌<◌, ◌≤◌, true, false, ◌==◌, pos, ◌+ℤ◌, min, List, [], ◌∷◌, length, codes, Some, refl, arith, lt-ltb, le-leb, ne_eqb, eq-eqb}
use Rattle.std.proofs.lemmas.Bool.Decides.{nat_tests}
use Rattle.std.specs.Char.{is_ascii_digit}
use Rattle.std.specs.Str.{bytes_eq}
use Rattle.jiff_core.specs.Calendar.{days_from_civil, IsCivilDate}
use Rattle.jiff_core.proofs.SignedLemmas.{signed_arith}
use Rattle.toml_datetime.specs.declared.datetime.Date.{Date}
use Rattle.toml_datetime.specs.declared.datetime.Time.{Time}
use Rattle.toml_datetime.specs.declared.datetime.Offset.TheVariants.{Z}
use Rattle.toml_datetime.specs.declared.datetime.Datetime.{Datetime}
use Rattle.toml_datetime.specs.Valid.{is_valid, is_valid_date, is_valid_time, is_valid_offset, days_in_month}
use Rattle.toml_datetime.specs.Parse.{two_digits, full_date, fraction_value, nanoseconds, seconds, partial_time, time_offset, after_date, parse_datetime}
use Rattle.toml_parser.specs.declared.scalar.Scalar.TheVariants.{Datetime as DatetimeScalar}
use Rattle.toml_parser.specs.Lexical.{is_word}
use Rattle.toml_parser.specs.Numbers.{word_value}
use Rattle.toml_writer.proofs.Scalars.{IsWord}
use Rattle.moment_text.specs.Calendar.{day_after, LiesAfter}
use Rattle.moment_text.specs.Text.{digits, day_text, time_text, text_within, moment_text}
use Rattle.moment_text.specs.Moments.{moment_of, year_10000, in_utc, days_since_2000}
use Rattle.moment_text.proofs.CalendarLemmas.{day_within-lies}

-- ---- the octets

-- a digit of a number
abbrev digit : ℕ → ℕ
digit n = 48 + n % 10

digit_is : (n : ℕ) → is_ascii_digit (48 + n % 10) ≡ true
digit_is n = grind (arith, nat_tests)

word_is : (n : ℕ) → is_word (48 + n % 10) ≡ true
word_is n = grind (arith, nat_tests)

-- a day and a time, each octet
abbrev clock_octets : ℕ → ℕ → ℕ → ℕ → List ℕ
clock_octets h mi s ms =
    digit (h / 10) ∷ digit h ∷ 58 ∷ digit (mi / 10) ∷ digit mi ∷ 58 ∷ digit (s / 10) ∷ digit s ∷ 46
    ∷ digit (ms / 10 / 10) ∷ digit (ms / 10) ∷ digit ms ∷ 90 ∷ []

abbrev octets : ℕ → ℕ → ℕ → List ℕ → List ℕ
octets y mo d rest =
    digit (y / 10 / 10 / 10) ∷ digit (y / 10 / 10) ∷ digit (y / 10) ∷ digit y ∷ 45
    ∷ digit (mo / 10) ∷ digit mo ∷ 45 ∷ digit (d / 10) ∷ digit d ∷ 84 ∷ rest

text-octets : (m : ℕ) → text_within m
    ≡ octets (day_after (m / 86_400_000)).year (day_after (m / 86_400_000)).month (day_after (m / 86_400_000)).day
    (clock_octets (m / 3_600_000 % 24) (m / 60_000 % 60) (m / 1000 % 60) (m % 1000))
unfolding text_within day_text time_text digits
text-octets m = refl

-- ---- its parts

read_two : (n k : ℕ) (rest : List ℕ) → n % 100 ≡ k → two_digits (digit (n / 10) ∷ digit n ∷ rest) ≡ Some (k, rest)
unfolding two_digits
read_two n k rest is =
    let value : 10 * (48 + n / 10 % 10 - 48) + (48 + n % 10 - 48) ≡ k = omega arith in
    rw (digit_is (n / 10), digit_is n, value) refl

read_date : (y mo d : ℕ) (rest : List ℕ) → y < 10000 → mo < 100 → d < 100 → is_valid_date (record { year = y; month = mo; day = d }) ≡ true
    → full_date (octets y mo d rest) ≡ Some (record { year = y; month = mo; day = d }, 84 ∷ rest)
unfolding full_date
read_date y mo d rest year month day valid =
    let value : 100 * (y / 10 / 10) + y % 100 ≡ y = omega arith in
    rw (
      read_two (y / 10 / 10) (y / 10 / 10) (digit (y / 10) ∷ digit y ∷ 45 ∷ digit (mo / 10) ∷ digit mo ∷ 45 ∷ digit (d / 10) ∷ digit d ∷ 84 ∷ rest) (omega arith),
      read_two y (y % 100) (45 ∷ digit (mo / 10) ∷ digit mo ∷ 45 ∷ digit (d / 10) ∷ digit d ∷ 84 ∷ rest) refl,
      read_two mo mo (45 ∷ digit (d / 10) ∷ digit d ∷ 84 ∷ rest) (omega arith),
      read_two d d (84 ∷ rest) (omega arith),
      value,
      valid,
    ) refl

read_fraction : (ms : ℕ) → ms < 1000
    → nanoseconds (digit (ms / 10 / 10) ∷ digit (ms / 10) ∷ digit ms ∷ 90 ∷ []) ≡ Some (ms * 1_000_000, 90 ∷ [])
unfolding nanoseconds fraction_value
read_fraction ms small =
    let value : (48 + ms / 10 / 10 % 10 - 48) * 100_000_000 + ((48 + ms / 10 % 10 - 48) * 10_000_000 + ((48 + ms % 10 - 48) * 1_000_000 + 0)) ≡ ms * 1_000_000 = omega arith in
    rw (digit_is (ms / 10 / 10), digit_is (ms / 10), digit_is ms) (rw value refl)

read_seconds : (s ms : ℕ) → s < 60 → ms < 1000
    → seconds (58 ∷ digit (s / 10) ∷ digit s ∷ 46 ∷ digit (ms / 10 / 10) ∷ digit (ms / 10) ∷ digit ms ∷ 90 ∷ [])
    ≡ Some ((Some s, Some (ms * 1_000_000)), 90 ∷ [])
unfolding seconds
read_seconds s ms second fraction =
    rw (read_two s s (46 ∷ digit (ms / 10 / 10) ∷ digit (ms / 10) ∷ digit ms ∷ 90 ∷ []) (omega arith), read_fraction ms fraction) refl

-- the time of day that a moment shows
abbrev time_at : ℕ → ℕ → ℕ → ℕ → Time
time_at h mi s ms = record { hour = h; minute = mi; second = Some s; nanosecond = Some (ms * 1_000_000) }

valid_time : (h mi s ms : ℕ) → h < 24 → mi < 60 → s < 60 → ms < 1000 → is_valid_time (time_at h mi s ms) ≡ true
unfolding is_valid_time
valid_time h mi s ms hour minute second fraction =
    rw (lt-ltb h 24 hour, lt-ltb mi 60 minute, lt-ltb s 61 (omega arith), lt-ltb (ms * 1_000_000) 1_000_000_000 (omega arith)) refl

read_time : (h mi s ms : ℕ) → h < 24 → mi < 60 → s < 60 → ms < 1000
    → partial_time (clock_octets h mi s ms) ≡ Some (time_at h mi s ms, 90 ∷ [])
unfolding partial_time
read_time h mi s ms hour minute second fraction =
    rw (
      read_two h h (58 ∷ digit (mi / 10) ∷ digit mi ∷ 58 ∷ digit (s / 10) ∷ digit s ∷ 46 ∷ digit (ms / 10 / 10) ∷ digit (ms / 10) ∷ digit ms ∷ 90 ∷ []) (omega arith),
      read_two mi mi (58 ∷ digit (s / 10) ∷ digit s ∷ 46 ∷ digit (ms / 10 / 10) ∷ digit (ms / 10) ∷ digit ms ∷ 90 ∷ []) (omega arith),
      read_seconds s ms second fraction,
      valid_time h mi s ms hour minute second fraction,
    ) refl

-- ---- the whole

abbrev date_at : ℕ → ℕ → ℕ → Date
date_at y mo d = record { year = y; month = mo; day = d }

abbrev when_at : ℕ → ℕ → ℕ → ℕ → ℕ → ℕ → ℕ → Datetime
when_at y mo d h mi s ms = record { date = Some (date_at y mo d); time = Some (time_at h mi s ms); offset = Some Z }

read_when : (y mo d h mi s ms : ℕ) → y < 10000 → mo < 100 → d < 100 → is_valid_date (date_at y mo d) ≡ true
    → h < 24 → mi < 60 → s < 60 → ms < 1000
    → parse_datetime (octets y mo d (clock_octets h mi s ms)) ≡ Some (when_at y mo d h mi s ms)
unfolding parse_datetime after_date time_offset
read_when y mo d h mi s ms year month day valid hour minute second fraction =
    let other : (48 + y / 10 % 10 == 58) ≡ false = ne_eqb (48 + y / 10 % 10) 58 (omega arith) in
    rw (other, read_date y mo d (clock_octets h mi s ms) year month day valid, read_time h mi s ms hour minute second fraction) refl

no_name : (n : ℕ) (cs : List ℕ) → (bytes_eq (digit n ∷ cs) (codes "true") ≡ false) × (bytes_eq (digit n ∷ cs) (codes "false") ≡ false)
no_name n cs =
    let t : (48 + n % 10 == 116) ≡ false = ne_eqb (48 + n % 10) 116 (omega arith) in
    let f : (48 + n % 10 == 102) ≡ false = ne_eqb (48 + n % 10) 102 (omega arith) in
    (rw t refl, rw f refl)

is_word-octets : (y mo d h mi s ms : ℕ) → y < 10000 → mo < 100 → d < 100 → is_valid_date (date_at y mo d) ≡ true
    → h < 24 → mi < 60 → s < 60 → ms < 1000
    → IsWord (octets y mo d (clock_octets h mi s ms)) (DatetimeScalar (when_at y mo d h mi s ms))
unfolding word_value
is_word-octets y mo d h mi s ms year month day valid hour minute second fraction =
    let names = no_name (y / 10 / 10 / 10) (digit (y / 10 / 10) ∷ digit (y / 10) ∷ digit y ∷ 45
    ∷ digit (mo / 10) ∷ digit mo ∷ 45 ∷ digit (d / 10) ∷ digit d ∷ 84 ∷ clock_octets h mi s ms) in
    record {
      some = omega arith;
      all = rw (
        word_is (y / 10 / 10 / 10),
        word_is (y / 10 / 10),
        word_is (y / 10),
        word_is y,
        word_is (mo / 10),
        word_is mo,
        word_is (d / 10),
        word_is d,
        word_is (h / 10),
        word_is h,
        word_is (mi / 10),
        word_is mi,
        word_is (s / 10),
        word_is s,
        word_is (ms / 10 / 10),
        word_is (ms / 10),
        word_is ms,
      ) refl;
      value = rw (
        names.0,
        names.1,
        digit_is (y / 10 / 10 / 10),
        digit_is (y / 10 / 10),
        digit_is (y / 10),
        digit_is y,
        read_when y mo d h mi s ms year month day valid hour minute second fraction,
      ) refl;
    }

-- a day of the calendar is one that a text can write
real_date : (y mo d : ℕ) → IsCivilDate (pos y) mo d → (y < 10000) × (mo < 100) × (d < 100) × (is_valid_date (date_at y mo d) ≡ true)
unfolding is_valid_date
real_date y mo d real =
    let year : y < 10000 = omega (arith, signed_arith, real.0.1) in
    let first_month : 1 ≤ mo = real.1.0 in
    let last_month : mo ≤ 12 = real.1.1 in
    let first_day : 1 ≤ d = real.2.0 in
    let last_day : d ≤ days_in_month y mo = real.2.1 in
    let few : days_in_month y mo < 100 = grind (arith, nat_tests) in (
      year,
      omega arith,
      omega arith,
      rw (lt-ltb y 10000 year, le-leb 1 mo first_month, le-leb mo 12 last_month, le-leb 1 d first_day, le-leb d (days_in_month y mo) last_day) refl,
    )

whole_ms : (ms : ℕ) → (ms * 1_000_000 % 1_000_000 == 0) ≡ true
whole_ms ms = eq-eqb (ms * 1_000_000 % 1_000_000) 0 (omega arith)

moment_at : (n y mo d h mi s ms m : ℕ) → IsCivilDate (pos y) mo d → days_from_civil (pos y) mo d ≡ days_from_civil (pos 2000) 1 1 +ℤ pos n
    → h < 24 → mi < 60 → s < 60 → ms < 1000
    → n * 86_400_000 + (h * 3_600_000 + mi * 60_000 + (s * 1000 + ms)) ≡ m → m < year_10000
    → moment_of (when_at y mo d h mi s ms) ≡ Some m
unfolding moment_of is_valid is_valid_offset
moment_at n y mo d h mi s ms m real placed hour minute second fraction is room =
    let (year, month, of_month, valid) = real_date y mo d real in
    let part : ms * 1_000_000 / 1_000_000 ≡ ms = omega arith in
    let days : days_since_2000 (date_at y mo d) ≡ pos n = omega (arith, signed_arith, placed) in
    let utc : in_utc (date_at y mo d) (time_at h mi s ms) (s * 1000 + ms) Z ≡ pos m = rw days (omega (arith, signed_arith)) in
    rw (valid, valid_time h mi s ms hour minute second fraction, lt-ltb s 60 second, whole_ms ms, part, utc, lt-ltb m 252_455_616_000_000 room) refl

-- the date-time that a moment's text is read as
unfoldable pub when_of : ℕ → Datetime
when_of m =
    let day = day_after (m / 86_400_000) in
    when_at day.year day.month day.day (m / 3_600_000 % 24) (m / 60_000 % 60) (m / 1000 % 60) (m % 1000)

pub word_of_moment : (m : ℕ) → m < year_10000 → IsWord (moment_text m) (DatetimeScalar (when_of m))
unfolding moment_text when_of
word_of_moment m room =
    let n = m / 86_400_000 in
    let day = day_after n in
    let lies : LiesAfter n day = day_within-lies 8000 n refl (omega arith) in
    let (year, month, of_month, valid) = real_date day.year day.month day.day lies.real in
    let shown : min m 252_455_615_999_999 ≡ m = omega arith in
    rw (shown, text-octets m)
    (is_word-octets day.year day.month day.day (m / 3_600_000 % 24) (m / 60_000 % 60) (m / 1000 % 60) (m % 1000)
    year month of_month valid (omega arith) (omega arith) (omega arith) (omega arith))

pub moment_of-when_of : (m : ℕ) → m < year_10000 → moment_of (when_of m) ≡ Some m
unfolding when_of
moment_of-when_of m room =
    let n = m / 86_400_000 in
    let lies : LiesAfter n (day_after n) = day_within-lies 8000 n refl (omega arith) in
    moment_at n (day_after n).year (day_after n).month (day_after n).day (m / 3_600_000 % 24) (m / 60_000 % 60) (m / 1000 % 60) (m % 1000) m lies.real lies.placed
    (omega arith) (omega arith) (omega arith) (omega arith) (omega arith) room

pub length-moment_text : (m : ℕ) → m < year_10000 → length (moment_text m) ≡ 24
unfolding moment_text
length-moment_text m room =
    let shown : min m 252_455_615_999_999 ≡ m = omega arith in
    rw (shown, text-octets m) refl
