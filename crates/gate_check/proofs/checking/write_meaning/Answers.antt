use Rattle.edge_traits.specs.Faults.{calls_of}
use Rattle.edge_traits.proofs.FaultsLemmas.{NoneFailed-same}
use Rattle.gate_check.proofs.checking.write_meaning.Goals as goal

pub returns-in-Err-clause-writes : goal.returns-in-Err-clause-writes
returns-in-Err-clause-writes g c =
    NoneFailed-same (calls_of g.K.Sink.faults g.K.Sink.failing c.args.sink.now)
