use Rattle.std.proofs.Common.{◌≡◌, true, arith}
use Rattle.toml_datetime.specs.Valid.{is_valid_offset}
use Rattle.toml_datetime.specs.declared.datetime.Offset.TheVariants.{Custom}
use Rattle.moment_text.proofs.DateLemmas.{offset_bound}
use Rattle.jiff_core.proofs.SignedLemmas.{signed_arith}
use Rattle.moment_text.proofs.reading.minutes_ahead.Goals as goal

pub returns-in-Custom-clause-bound : goal.returns-in-Custom-clause-bound
returns-in-Custom-clause-bound c =
    let valid : is_valid_offset (Custom c.in-Custom.minutes) ≡ true = rw c.in-Custom.is at c.requires in
    let bound = offset_bound c.in-Custom.minutes valid in
    let same = c.from.ensures in
    let low = bound.0 in
    let high = bound.1 in
    (omega (arith, signed_arith), omega (arith, signed_arith))
