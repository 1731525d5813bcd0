use Rattle.spans.proofs.Iterating.{Totalling}
use Rattle.spans.proofs.reading.total.Given as goal

abbrev pub invariant-loop-chunk : goal.invariant-loop-chunk
invariant-loop-chunk l = Totalling l.chunks l.chunk-index l.total
