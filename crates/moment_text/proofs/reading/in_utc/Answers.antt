use Rattle.std.proofs.Common.{◌+◌, ◌*◌, arith, ◌∙◌, sym}
use Rattle.moment_text.proofs.DateLemmas.{in_utc-is, in_64_bits}
use Rattle.moment_text.proofs.reading.in_utc.Goals as goal

pub returns-clause-value : goal.returns-clause-value
returns-clause-value c =
    let is = in_utc-is c.args.date c.args.time c.args.ms c.args.offset c.since_first_day.result c.since_first_day.ensures.value in
    let days = c.from-days.ensures in
    let hours = c.from.ensures in
    let minutes = c.from-2.ensures in
    let ms = c.from-3.ensures in
    let ahead = c.minutes_ahead.ensures.value in
    let bound = c.since_first_day.ensures.bound in
    let ahead_bound = c.minutes_ahead.ensures.bound in
    let within = c.requires.time in
    let local = c.from-days.result * 86_400_000 + (c.from.result * 3_600_000 + c.from-2.result * 60_000 + c.from-3.result) in
    in_64_bits local 378_651_801_600_000 c.minutes_ahead.result (omega arith) (omega arith) ahead_bound
    ∙ rw (days, hours, minutes, ms, ahead) (sym is)
