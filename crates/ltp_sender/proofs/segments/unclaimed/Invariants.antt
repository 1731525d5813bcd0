use Rattle.std.specs.Prelude.{length, ◌-◌}
use Rattle.ltp_sender.specs.Ranges.{Tell}
use Rattle.ltp_sender.proofs.SegmentLemmas.{AreBefore}
use Rattle.ltp_sender.proofs.segments.unclaimed.Given as goal

abbrev pub invariant-cutting : goal.invariant-cutting
invariant-cutting l =
    AreBefore l.size l.part l.claimed l.from l.segments.items × Tell l.from l.ranges l.claimed

abbrev pub decreases-cutting : goal.decreases-cutting
decreases-cutting l = length l.part - l.from
