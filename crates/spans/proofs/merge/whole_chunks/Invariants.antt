use Rattle.std.proofs.Common.{length, ◌-◌}
use Rattle.spans.specs.Chunks.{MeetsWhole}
use Rattle.spans.proofs.merge.whole_chunks.Given as goal

abbrev pub invariant-loop-whole : goal.invariant-loop-whole
invariant-loop-whole l = MeetsWhole l.to l.initial.growth l.growth l.chunks l.from l.whole

abbrev pub decreases-loop-whole : goal.decreases-loop-whole
decreases-loop-whole l = length l.chunks - l.whole
