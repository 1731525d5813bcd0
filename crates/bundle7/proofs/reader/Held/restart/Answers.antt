-- Nothing is open.
use Rattle.std.proofs.Common.{arith}
use Rattle.bundle7.proofs.ReaderLemmas.{held-nothing}
use Rattle.bundle7.proofs.reader.Held.restart.Goals as goal

pub returns-clause-held : goal.returns-clause-held
returns-clause-held c = held-nothing _ c.empty.ensures c.restart.ensures (omega arith)
