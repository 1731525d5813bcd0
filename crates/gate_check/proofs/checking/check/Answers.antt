use Rattle.std.proofs.Common.{sym}
use Rattle.edge_traits.specs.Faults.{calls_of}
use Rattle.edge_traits.proofs.FaultsLemmas.{NoneFailed-same}
use Rattle.gate_config.specs.Reading.{most_octets}
use Rattle.gate_check.proofs.CheckLemmas.{checks_read}
use Rattle.gate_check.proofs.checking.check.Goals as goal

pub returns-in-Ok-clause-checks : goal.returns-in-Ok-clause-checks
returns-in-Ok-clause-checks g c =
    checks_read most_octets (g.S.Source.left c.args.file.now) c.in-Ok.octets.items c.say.result
    (g.K.Sink.held c.args.sink.now) (g.K.Sink.held c.say.new.sink)
    c.in-Ok.ensures.input (rw (sym c.deref.ensures.value) c.say.ensures.checks)

pub returns-in-Err-Fault-clause-writes : goal.returns-in-Err-Fault-clause-writes
returns-in-Err-Fault-clause-writes g c =
    NoneFailed-same (calls_of g.K.Sink.faults g.K.Sink.failing c.args.sink.now)

pub returns-in-Err-NoMemory-clause-writes : goal.returns-in-Err-NoMemory-clause-writes
returns-in-Err-NoMemory-clause-writes g c =
    NoneFailed-same (calls_of g.K.Sink.faults g.K.Sink.failing c.args.sink.now)
