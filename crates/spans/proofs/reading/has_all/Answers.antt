use Rattle.std.proofs.Common.{arith}
use Rattle.std.proofs.lemmas.Bool.{false≢true, le-leb, leb-true}
use Rattle.spans.proofs.Split.{FirstHasAll-past, FirstHasAll-read}
use Rattle.spans.proofs.reading.has_all.Goals as goal

pub returns-then-place-chunks : goal.returns-then-place-chunks
returns-then-place-chunks c = (
  λ h. absurd (false≢true h),
  λ h. absurd (FirstHasAll-past c.args.chunks.now c.args.place.chunk c.args.place.at c.args.from c.args.to c.if-place-chunks.true h),
)

pub returns-then-run-from : goal.returns-then-run-from
returns-then-run-from c =
    let r = c.run-run.result in
    let both = FirstHasAll-read c.args.chunks.now c.args.place.chunk c.args.place.at c.args.from c.args.to c.index-chunks-place.result r
    c.if-place-chunks.false c.index-chunks-place.is (c.requires.at c.if-place-chunks.false) c.run-run.ensures.run in
    (λ h. both.0 (c.if-run-from.true, leb-true c.args.to r.to h), λ h. le-leb c.args.to r.to (both.1 h).1)

pub returns-else-run-from : goal.returns-else-run-from
returns-else-run-from c =
    let r = c.run-run.result in
    let both = FirstHasAll-read c.args.chunks.now c.args.place.chunk c.args.place.at c.args.from c.args.to c.index-chunks-place.result r
    c.if-place-chunks.false c.index-chunks-place.is (c.requires.at c.if-place-chunks.false) c.run-run.ensures.run in
    (λ h. let low = leb-true r.from c.args.from h in absurd (omega (arith, low)), λ h. le-leb r.from c.args.from (both.1 h).0)
