use Rattle.spans.proofs.Iterating.{Walking}
use Rattle.spans.proofs.reading.run.Given as goal

abbrev pub invariant-loop-chunk : goal.invariant-loop-chunk
invariant-loop-chunk l = Walking l.chunks l.i l.chunk-index l.left
