use Rattle.std.proofs.Common.{length}
use Rattle.edge_traits.specs.Faults.{NoneFailed, calls_of}
use Rattle.edge_traits.proofs.ContentLemmas.{Written}
use Rattle.edge_traits.proofs.output.write_all.Given as goal

abbrev pub invariant-writing : goal.invariant-writing
invariant-writing g l = record {
  wrote : Written (g.K.Sink.held l.initial.sink) (g.K.Sink.held l.sink) l.rest l.text;
  calls : NoneFailed (calls_of g.K.Sink.faults g.K.Sink.failing l.initial.sink) (calls_of g.K.Sink.faults g.K.Sink.failing l.sink);
}

abbrev pub decreases-writing : goal.decreases-writing
decreases-writing g l = length l.rest
