use Rattle.std.proofs.Common.{[]}
use Rattle.wire_fields.proofs.ReadLemmas.{read-refuses}
use Rattle.wire_fields.proofs.laws.refuses.Goals as goal

pub returns : goal.returns
returns g c = λ text at s fits refusal. read-refuses g.T.Table.fields [] text at s fits refusal
