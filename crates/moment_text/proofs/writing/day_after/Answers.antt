use Rattle.std.proofs.Common.{◌≡◌, arith, FitsSigned, w16, to_z, of_z, refl}
use Rattle.std.proofs.lemmas.Int.{to_z-of_z}
use Rattle.jiff_core.proofs.SignedLemmas.{signed_arith}
use Rattle.moment_text.proofs.CalendarLemmas.{day_within-epoch_day}
use Rattle.moment_text.proofs.writing.day_after.Goals as goal

pub returns : goal.returns
returns c =
    let d = c.from_days_since_min-date.result in
    let is = day_within-epoch_day 8000 c.args.days d c.from_days_since_min-date.ensures d.year_in.1 (omega arith) in
    let low = d.year_in.0 in
    let high = d.year_in.1 in
    let fits : FitsSigned w16 d.year = omega (arith, signed_arith) in
    let same : to_z w16 (of_z w16 d.year) ≡ d.year = to_z-of_z w16 d.year fits in
    let size = rw same at c.unsigned_abs.ensures.value in
    rw (is, c.from.ensures, size, c.from-2.ensures, c.from-3.ensures) refl
