use Rattle.std.proofs.Common.{arith}
use Rattle.ltp_segment.specs.PolicyViews.{policy_value}
use Rattle.ltp_audit.proofs.RecorderLemmas.{kept-new}
use Rattle.ltp_audit.proofs.recorder.Recorder.new.Goals as goal

pub invariant_of-result : goal.invariant_of-result
invariant_of-result c whole =
    kept-new c.new.result c.new-2.result.items c.args.own c.args.peer c.args.first_session (policy_value c.args.policy) c.new.ensures.value
    c.new.ensures.shows c.new-2.ensures.items c.requires.apart (omega (arith, c.ranges.own.fits)) (omega (arith, c.ranges.peer.fits))
    (omega (arith, c.requires.numbers))
