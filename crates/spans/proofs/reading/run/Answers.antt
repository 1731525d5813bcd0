use Rattle.std.proofs.Common.{◌-◌, arith}
use Rattle.spans.proofs.Iterating.{Walking-more, Walking-found}
use Rattle.spans.proofs.reading.run.Goals as goal

pub returns-then-left-len : goal.returns-then-left-len
returns-then-left-len c =
    Walking-found c.args.chunks.now c.args.i c.loop-chunk.chunk-index c.loop-chunk.left c.chunk-item.result c.run.result
    c.loop-chunk.invariant (omega arith) c.chunk-item.is (omega arith) c.run.ensures.run

pub loop-chunk-preserved : goal.loop-chunk-preserved
loop-chunk-preserved c =
    Walking-more c.args.chunks.now c.args.i c.loop-chunk.chunk-index c.loop-chunk.left (c.loop-chunk.left - c.len-left.result) c.chunk-item.result
    c.loop-chunk.invariant (omega arith) c.chunk-item.is (omega arith) (omega arith)
