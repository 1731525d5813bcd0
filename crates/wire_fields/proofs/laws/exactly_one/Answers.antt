use Rattle.wire_fields.proofs.StayLemmas.{exactly_one}
use Rattle.wire_fields.proofs.laws.exactly_one.Goals as goal

pub returns : goal.returns
returns g c = λ text fits. exactly_one g.T.Table.fields text fits
