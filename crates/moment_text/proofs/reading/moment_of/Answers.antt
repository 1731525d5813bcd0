use Rattle.std.proofs.Common.{sym, ◌∙◌}
use Rattle.moment_text.proofs.DateLemmas.{all_parts}
use Rattle.moment_text.proofs.reading.moment_of.Goals as goal

pub seconds_ms-requires : goal.seconds_ms-requires
seconds_ms-requires c =
    let p = c.in-Some-Some-Some in
    (all_parts c.args.when.now p.date p.time p.offset (sym c.is_valid.ensures ∙ c.if-not-is_valid.false) p.is-0 p.is-1 p.is-2).1.fraction

pub in_utc-requires-clause-day : goal.in_utc-requires-clause-day
in_utc-requires-clause-day c =
    let p = c.in-Some-Some-Some in
    (all_parts c.args.when.now p.date p.time p.offset (sym c.is_valid.ensures ∙ c.if-not-is_valid.false) p.is-0 p.is-1 p.is-2).0

pub in_utc-requires-clause-time : goal.in_utc-requires-clause-time
in_utc-requires-clause-time c =
    let p = c.in-Some-Some-Some in
    let time = (all_parts c.args.when.now p.date p.time p.offset (sym c.is_valid.ensures ∙ c.if-not-is_valid.false) p.is-0 p.is-1 p.is-2).1 in
    (time.hour, time.minute, c.in_ok-ms-in-Some-Some-Some.ensures.bound)

pub in_utc-requires-clause-offset : goal.in_utc-requires-clause-offset
in_utc-requires-clause-offset c =
    let p = c.in-Some-Some-Some in
    (all_parts c.args.when.now p.date p.time p.offset (sym c.is_valid.ensures ∙ c.if-not-is_valid.false) p.is-0 p.is-1 p.is-2).2
