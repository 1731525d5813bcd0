use Rattle.std.proofs.Common.{rules}
use Rattle.serve_run.proofs.DeedLemmas.{breaks-at-once}
use Rattle.serve_run.proofs.mem_edges.MemEdgesEdges.write.Goals as goal

pub returns-in-Err-clause-wrote : goal.returns-in-Err-clause-wrote
returns-in-Err-clause-wrote c = record {
  wrote = search rules;
  old = search rules;
  new = search rules;
  readings = search rules;
  trace = breaks-at-once _ _ _ c.write_failed.ensures;
}
