use Rattle.std.proofs.Common.{List, sym, subst, arith}
use Rattle.spans.specs.declared.range.Run.{Run}
use Rattle.ltp_sender.specs.declared.segments.Segment.{Segment}
use Rattle.ltp_sender.specs.Ranges.{Tell}
use Rattle.ltp_sender.proofs.SegmentLemmas.{AreBefore, AreBefore-first, AreBefore-step, AreBefore-last, Tell-all, Tell-later, IsAdded}
use Rattle.ltp_sender.proofs.segments.unclaimed.Goals as goal

pub cutting-init : goal.cutting-init
cutting-init c = (
  subst (λ (xs : List Segment). AreBefore c.args.size c.args.part.now c.args.claimed.now 0 xs) (sym c.new-segments.ensures.items)
      (AreBefore-first c.args.size c.args.part.now c.args.claimed.now),
  subst (λ (runs : List Run). Tell 0 runs c.args.claimed.now) (sym c.of-ranges.ensures) (Tell-all c.args.claimed.now),
)

pub cutting-preserved : goal.cutting-preserved
cutting-preserved c =
    let s = c.segment_at-segment.result in
    let is_from = c.segment_at-segment.ensures.from in
    let is_to = c.segment_at-segment.ensures.to in
    let added : IsAdded s c.cutting.ranges c.cutting.segments.items c.add_unclaimed.new.segments.items =
    record { claimed = c.in_ok-add_unclaimed.ensures.claimed; unclaimed = c.in_ok-add_unclaimed.ensures.unclaimed } in (
      AreBefore-step c.args.size c.args.part.now c.args.claimed.now c.cutting.from s c.cutting.ranges c.cutting.segments.items c.add_unclaimed.new.segments.items
          c.requires.some c.cutting-test.true is_from is_to c.cutting.invariant.1 c.cutting.invariant.0 added,
      Tell-later c.cutting.from s.to c.cutting.ranges c.add_unclaimed.new.ranges c.args.claimed.now (omega (arith, is_to)) c.cutting.invariant.1
          (λ k low. c.add_unclaimed.ensures.rest k (omega (arith, is_from, low))),
    )

pub returns-clause-exact : goal.returns-clause-exact
returns-clause-exact c =
    AreBefore-last c.args.size c.args.part.now c.args.claimed.now c.cutting.from c.cutting.segments.items c.cutting-test.false c.cutting.invariant.0
