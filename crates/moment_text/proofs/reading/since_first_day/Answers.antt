use Rattle.std.proofs.Common.{◌≡◌, ℕ, ◌<◌, arith, w16, pos, FitsSigned, to_z, ◌∙◌}
use Rattle.std.proofs.lemmas.Int.{to_z-of_z}
use Rattle.jiff_core.proofs.SignedLemmas.{signed_arith}
use Rattle.moment_text.proofs.DateLemmas.{real, constrained}
use Rattle.moment_text.proofs.reading.since_first_day.Goals as goal

pub overflow_cast-date : goal.overflow_cast-date
overflow_cast-date c = let r = real c.args.date c.requires in let y = r.year in omega (arith, signed_arith)

year_fits : (year : ℕ) → year < 10000 → to_z w16 year ≡ pos year
year_fits year low = let fits : FitsSigned w16 (pos year) = omega (arith, signed_arith) in to_z-of_z w16 (pos year) fits

pub constrain-requires-clause-year_in : goal.constrain-requires-clause-year_in
constrain-requires-clause-year_in c =
    let r = real c.args.date c.requires in
    let low = r.year in
    let same = year_fits c.args.date.year low in
    rw same (omega (arith, signed_arith), omega (arith, signed_arith))

pub constrain-requires-clause-month_in : goal.constrain-requires-clause-month_in
constrain-requires-clause-month_in c = let r = real c.args.date c.requires in (r.first_month, r.last_month)

pub constrain-requires-clause-day_in : goal.constrain-requires-clause-day_in
constrain-requires-clause-day_in c = (real c.args.date c.requires).first_day

pub returns-clause-value : goal.returns-clause-value
returns-clause-value c =
    let r = real c.args.date c.requires in
    let same = year_fits c.args.date.year r.year in
    let made = c.constrain.ensures in
    let year = made.year ∙ same in
    let day = rw (← made.year) at made.day in
    let here = constrained c.args.date c.constrain.result.year c.constrain.result.day year day r in
    let value = c.days_since_min.ensures.value in
    let named = rw made.month at value in
    rw (← here) named
