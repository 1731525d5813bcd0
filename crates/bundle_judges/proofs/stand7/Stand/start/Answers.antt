-- The primary block where it lies.
use Rattle.std.proofs.Common.{refl}
use Rattle.bundle_judges.proofs.StepLemmas7.{wants-room}
use Rattle.bundle_judges.proofs.StartLemmas7.{starts-here, stays-here, refused-here, open-here}
use Rattle.bundle_judges.proofs.stand7.Stand.start.Goals as goal

pub started_here-requires-clause-starts : goal.started_here-requires-clause-starts
started_here-requires-clause-starts c = (
  c.requires.there.0,
  record {
    starts = starts-here c.requires.there.0 c.args.rest.now c.args.self.now c.in-Ok.end c.in-Ok.part c.requires.there.1 c.requires.stage c.requires.fresh
        c.requires.there.2 c.in-Ok.ensures.within.within c.in-Ok.ensures.exact;
    is = c.requires.there.2;
  },
)

pub returns-in-Ok : goal.returns-in-Ok
returns-in-Ok c = λ text stands is.
    c.started_here.ensures text (record {
      starts = starts-here text c.args.rest.now c.args.self.now c.in-Ok.end c.in-Ok.part stands c.requires.stage c.requires.fresh is
          c.in-Ok.ensures.within.within c.in-Ok.ensures.exact;
      is = is;
    })

pub returns-in_ok-extend_from_slice-in-Truncated : goal.returns-in_ok-extend_from_slice-in-Truncated
returns-in_ok-extend_from_slice-in-Truncated c = λ text stands is.
    stays-here text c.args.rest.now c.args.self.now _ c.extend_from_slice.new.self c.in-Err.refused.at stands c.requires.stage c.requires.fresh is
    c.in_ok-extend_from_slice-in-Truncated.ensures.items refl (rw c.in-Truncated.is at c.in-Err.ensures.exact)

pub returns-in_err-extend_from_slice-in-Truncated : goal.returns-in_err-extend_from_slice-in-Truncated
returns-in_err-extend_from_slice-in-Truncated c = λ text stands is.
    wants-room text c.args.self.now _ c.from_residual.result c.from_residual.ensures.1 c.requires.stage
    (λ none. open-here text c.args.rest.now c.args.self.now c.in-Err.refused.at c.requires.fresh is (rw c.in-Truncated.is at c.in-Err.ensures.exact))

pub returns-in_default : goal.returns-in_default
returns-in_default c = λ text stands is.
    rw c.into.ensures
    (refused-here text c.args.rest.now c.args.self.now c.in-Err.refused.at c.in-Err.refused.cause c.requires.fresh is
    c.in-Err.ensures.exact c.in_default.not-Truncated)
