use Rattle.std.proofs.Common.{arith}
use Rattle.wire_fields.proofs.ReadLemmas.{read-refused}
use Rattle.wire_fields.proofs.laws.refused.Goals as goal

pub returns : goal.returns
returns g c = λ text at s fits is. read-refused g.T.Table.fields text 0 at s fits (omega arith) is
