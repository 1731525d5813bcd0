use Rattle.edge_traits.specs.Faults.{calls_of}
use Rattle.edge_traits.proofs.FaultsLemmas.{NoneFailed-same}
use Rattle.gate_config.specs.Reading.{most_octets}
use Rattle.gate_check.proofs.CheckLemmas.{writes_meaning, memory_wanted}
use Rattle.gate_check.proofs.checking.say.Goals as goal

pub returns-in-Ok-clause-checks : goal.returns-in-Ok-clause-checks
returns-in-Ok-clause-checks g c =
    writes_meaning most_octets c.args.octets.now c.in-Ok.file c.write_meaning.result
    (g.K.Sink.held c.args.sink.now) (g.K.Sink.held c.write_meaning.new.sink)
    c.in-Ok.ensures.means c.write_meaning.ensures.wrote

pub returns-in-Err-Refused-clause-writes : goal.returns-in-Err-Refused-clause-writes
returns-in-Err-Refused-clause-writes g c =
    NoneFailed-same (calls_of g.K.Sink.faults g.K.Sink.failing c.args.sink.now)

pub returns-in-Err-Memory-clause-checks : goal.returns-in-Err-Memory-clause-checks
returns-in-Err-Memory-clause-checks g c = memory_wanted most_octets c.args.octets.now
    (rw c.in-Err-Memory.field-0-is at c.in-Err-Memory.ensures.fails)

pub returns-in-Err-Memory-clause-writes : goal.returns-in-Err-Memory-clause-writes
returns-in-Err-Memory-clause-writes g c =
    NoneFailed-same (calls_of g.K.Sink.faults g.K.Sink.failing c.args.sink.now)
