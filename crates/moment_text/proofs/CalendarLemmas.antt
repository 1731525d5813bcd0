-- The day of the calendar that lies a number of days after 1 January 2000 is the one found by counting.

use Rattle.std.proofs.Common.{◌≡◌, Bool, ℕ, zero, suc, ◌+◌, ◌-◌, ◌<◌, ◌≤◌, true, false, nat_lt, refl, ap, ◌∙◌, arith, ℤ, pos, negsuc, ◌+ℤ◌, ◌≤ℤ◌, unsigned_abs}
use Rattle.std.specs.Prelude.{if◌then◌else◌}
use Rattle.std.proofs.lemmas.Bool.Decides.{nat_tests}
use Rattle.std.proofs.lemmas.Int.{by_lt_z}
use Rattle.jiff_core.specs.Calendar.{IsCivilDate, day_count, days_in_year, days_in_month, days_of_months}
use Rattle.jiff_core.specs.declared.civil.date.Date.{Date}
use Rattle.jiff_core.specs.Date.{epoch_day}
use Rattle.jiff_core.proofs.SignedLemmas.{signed_arith}
use Rattle.jiff_core.proofs.MarchLemmas.{day_count-early}
use Rattle.jiff_core.proofs.CalendarLemmas.{days_from_civil-day_count, day_count-next_year, day_count-day_of_year, days_of_months_more, days_of_months_all, day_of_year_bound, day_count-end, day_count-lt_year, days_of_months-zero}
use Rattle.jiff_core.proofs.DateLemmas.{civil}
use Rattle.moment_text.specs.Calendar.{span_at, day_in_year, day_within, LiesAfter}

-- spans that lie end to end begin in this order
starts_rise : (length start : ℕ → ℕ) (number gap later : ℕ)
    → ((k : ℕ) → number ≤ k → start (suc k) ≡ start k + length k)
    → later ≡ gap + suc number → start number + length number ≤ start later
starts_rise length start number zero later next e =
    let same : later ≡ suc number = omega arith in rw same (omega (arith, next number (omega arith)))
starts_rise length start number (suc gap) later next e =
    let k = gap + suc number in
    let same : later ≡ suc k = omega arith in
    rw same (omega (arith, next k (omega arith), starts_rise length start number gap k next refl))

-- a place in the span k is found there
pub span_at-found : (length start : ℕ → ℕ) (few number place gap k r : ℕ)
    → ((k : ℕ) → number ≤ k → start (suc k) ≡ start k + length k)
    → k ≡ gap + number → gap < few → start number + place ≡ start k + r → r < length k
    → span_at length few number place ≡ (k, r)
unfolding span_at
span_at-found length start zero number place gap k r next which near at short = absurd (omega arith)
span_at-found length start (suc few) number place zero k r next which near at short =
    let same : k ≡ number = omega arith in
    let level : start number + place ≡ start number + r = at ∙ ap (λ x. start x + r) same in
    let here : place ≡ r = omega arith in
    let within : r < length number = rw (← same) short in
    let inside : nat_lt r (length number) ≡ true = grind (arith, nat_tests) in
    rw (here, same, inside) refl
span_at-found length start (suc few) number place (suc gap) k r next which near at short =
    let rise = starts_rise length start number gap k next (omega arith) in
    let past : nat_lt place (length number) ≡ false = grind (arith, nat_tests) in
    let later : (k : ℕ) → suc number ≤ k → start (suc k) ≡ start k + length k = λ k from. next k (omega arith) in
    let moved : start (suc number) + (place - length number) ≡ start k + r = omega (arith, next number (omega arith)) in
    let rest = span_at-found length start few (suc number) (place - length number) gap k r later (omega arith) (omega arith) moved short in
    rw (past, rest) refl

-- ---- years and months

pub day_count-2000 : day_count (pos 2000) 1 1 ≡ 4_382_910
day_count-2000 = day_count-early (pos 2000) 11999 1 1 refl (omega arith) (omega arith) (omega arith)

next_year : (k : ℕ) → 2000 ≤ k → day_count (pos (suc k)) 1 1 ≡ day_count (pos k) 1 1 + days_in_year (pos k)
next_year k from = day_count-next_year (pos k) (pos (suc k)) (omega (arith, signed_arith)) (omega (arith, signed_arith))

next_month : (year : ℤ) (k : ℕ) → 1 ≤ k → days_of_months year (suc k - 1) ≡ days_of_months year (k - 1) + days_in_month year k
next_month year k from = let back : suc k - 1 ≡ k = omega arith in rw back (days_of_months_more year k from)

-- a day of the calendar is found by counting years, and then months
found_year : (years y m d n : ℕ) → IsCivilDate (pos y) m d → 2000 ≤ y → y < 2000 + years
    → day_count (pos y) m d ≡ 4_382_910 + n
    → span_at (λ year. days_in_year (pos year)) years 2000 n ≡ (y, days_of_months (pos y) (m - 1) + d - 1)
found_year years y m d n real low high at =
    let placed = day_count-day_of_year (pos y) m d real.2.0 in
    let short = day_of_year_bound (pos y) m d real in
    let first = real.2.0 in
    span_at-found (λ year. days_in_year (pos year)) (λ year. day_count (pos year) 1 1) years 2000 n (y - 2000) y
    (days_of_months (pos y) (m - 1) + d - 1) next_year (omega arith) (omega arith)
    (omega (arith, day_count-2000, placed, first)) (omega (arith, short, first))

found_month : (y m d : ℕ) → IsCivilDate (pos y) m d
    → span_at (days_in_month (pos y)) 12 1 (days_of_months (pos y) (m - 1) + d - 1) ≡ (m, d - 1)
found_month y m d real =
    let first = real.2.0 in
    let last = real.2.1 in
    let low = real.1.0 in
    let high = real.1.1 in
    span_at-found (days_in_month (pos y)) (λ month. days_of_months (pos y) (month - 1)) 12 1
    (days_of_months (pos y) (m - 1) + d - 1) (m - 1) m (d - 1) (next_month (pos y)) (omega arith) (omega arith)
    (omega (arith, days_of_months-zero (pos y))) (omega arith)

found_day : (years y m d n : ℕ) → IsCivilDate (pos y) m d → 2000 ≤ y → y < 2000 + years
    → day_count (pos y) m d ≡ 4_382_910 + n
    → day_within years n ≡ record { year = y; month = m; day = d }
unfolding day_within day_in_year
found_day years y m d n real low high at =
    let back : d - 1 + 1 ≡ d = omega (arith, real.2.0) in
    rw (found_year years y m d n real low high at, found_month y m d real, back) refl

not_negative : (z : ℤ) → pos 2000 ≤ℤ z → z ≡ pos (unsigned_abs z)
not_negative (pos n) h = refl
not_negative (negsuc n) h = absurd (omega (arith, signed_arith))

-- no day before the year 2000 lies there
not_before : (date : Date) (n : ℕ) → day_count date.year date.month date.day ≡ 4_382_910 + n → pos 2000 ≤ℤ date.year
not_before date n at =
    by_lt_z date.year (pos 2000)
    (λ lt. absurd (omega (arith, day_count-2000, day_count-lt_year date.year date.month date.day (pos 2000) 1 1 (civil date) (omega arith) lt)))
    (λ le. le)

-- a date that lies so many days after 1 January 2000 is the day that counting finds
pub day_within-epoch_day : (years n : ℕ) (date : Date)
    → epoch_day date +ℤ pos 4_371_587 ≡ pos (4_382_544 + n) → date.year ≤ℤ pos 9999 → 8000 ≤ years
    → day_within years n ≡ record { year = unsigned_abs date.year; month = date.month; day = date.day }
day_within-epoch_day years n date e last room =
    let counted = days_from_civil-day_count date.year date.month date.day in
    let at : day_count date.year date.month date.day ≡ 4_382_910 + n = omega (arith, signed_arith) in
    let low = not_before date n at in
    let y = unsigned_abs date.year in
    let year : date.year ≡ pos y = not_negative date.year low in
    let real : IsCivilDate (pos y) date.month date.day = rw (← year) (civil date) in
    found_day years y date.month date.day n real (omega (arith, signed_arith)) (omega (arith, signed_arith)) (rw (← year) at)

-- ---- every day is found

-- what a place among spans that lie end to end has
pub record Lies (length start : ℕ → ℕ) (few number place : ℕ) (found : ℕ × ℕ) : Type 0 where
  pub from : number ≤ found.0
  pub to : found.0 < few + number
  pub at : start number + place ≡ start found.0 + found.1
  pub short : found.1 < length found.0

-- a step of it, by whether the place lies in the first span
span_step : (length start : ℕ → ℕ) (few number place : ℕ)
    → ((k : ℕ) → number ≤ k → start (suc k) ≡ start k + length k)
    → start number + place < start (suc few + number)
    → (((k : ℕ) → suc number ≤ k → start (suc k) ≡ start k + length k) → start (suc number) + (place - length number) < start (few + suc number)
    → Lies length start few (suc number) (place - length number) (span_at length few (suc number) (place - length number)))
    → (here : Bool) → nat_lt place (length number) ≡ here
    → Lies length start (suc few) number place (if here then (number, place) else span_at length few (suc number) (place - length number))
span_step length start few number place next room rest true is =
    record { from = omega arith; to = omega arith; at = refl; short = grind (arith, nat_tests, is) }
span_step length start few number place next room rest false is =
    let past : length number ≤ place = grind (arith, nat_tests, is) in
    let later : (k : ℕ) → suc number ≤ k → start (suc k) ≡ start k + length k = λ k from. next k (omega arith) in
    let same : suc few + number ≡ few + suc number = omega arith in
    let inner = rest later (omega (arith, next number (omega arith), rw same at room)) in
    record {
      from = omega (arith, inner.from);
      to = omega (arith, inner.to);
      at = omega (arith, inner.at, next number (omega arith));
      short = inner.short;
    }

pub span_at-lies : (length start : ℕ → ℕ) (few number place : ℕ)
    → ((k : ℕ) → number ≤ k → start (suc k) ≡ start k + length k)
    → start number + place < start (few + number)
    → Lies length start few number place (span_at length few number place)
unfolding span_at
span_at-lies length start zero number place next room = let none : zero + number ≡ number = omega arith in absurd (omega (arith, rw none at room))
span_at-lies length start (suc few) number place next room =
    span_step length start few number place next room (span_at-lies length start few (suc number) (place - length number)) (nat_lt place (length number)) refl

-- the day that counting finds is there, and lies there
pub day_within-lies : (years n : ℕ) → years ≡ 8000 → n < 2_921_940 → LiesAfter n (day_within years n)
unfolding day_within day_in_year
day_within-lies years n all room =
    let y = span_at (λ year. days_in_year (pos year)) years 2000 n in
    let end : years + 2000 ≡ 10000 = omega arith in
    let last : day_count (pos (years + 2000)) 1 1 ≡ 7_304_850 = rw end day_count-end in
    let in_year : Lies (λ year. days_in_year (pos year)) (λ year. day_count (pos year) 1 1) years 2000 n y =
    span_at-lies (λ year. days_in_year (pos year)) (λ year. day_count (pos year) 1 1) years 2000 n next_year (omega (arith, last, day_count-2000)) in
    let m = span_at (days_in_month (pos y.0)) 12 1 y.1 in
    let whole : days_of_months (pos y.0) (12 + 1 - 1) ≡ days_in_year (pos y.0) = days_of_months_all (pos y.0) in
    let in_month : Lies (days_in_month (pos y.0)) (λ month. days_of_months (pos y.0) (month - 1)) 12 1 y.1 m =
    span_at-lies (days_in_month (pos y.0)) (λ month. days_of_months (pos y.0) (month - 1)) 12 1 y.1 (next_month (pos y.0))
    (omega (arith, whole, days_of_months-zero (pos y.0), in_year.short)) in
    let counted = day_count-day_of_year (pos y.0) m.0 (m.1 + 1) (omega arith) in
    let day : day_count (pos y.0) m.0 (m.1 + 1) ≡ day_count (pos 2000) 1 1 + n =
    omega (arith, counted, in_year.at, in_month.at, days_of_months-zero (pos y.0)) in
    record {
      real = ((omega (arith, signed_arith), omega (arith, signed_arith, in_year.to)), (in_month.from, omega (arith, in_month.to)), (omega arith, omega (arith, in_month.short)));
      placed = omega (arith, signed_arith, days_from_civil-day_count (pos y.0) m.0 (m.1 + 1), days_from_civil-day_count (pos 2000) 1 1, day);
    }
