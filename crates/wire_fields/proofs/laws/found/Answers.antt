use Rattle.wire_fields.proofs.StayLemmas.{read-begins}
use Rattle.wire_fields.proofs.laws.found.Goals as goal

pub returns : goal.returns
returns g c = λ text k a fits is. read-begins g.T.Table.fields text k a fits is
