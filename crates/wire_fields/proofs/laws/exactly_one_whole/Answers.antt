use Rattle.wire_fields.proofs.WholeLemmas.{exactly_one_whole}
use Rattle.wire_fields.proofs.laws.exactly_one_whole.Goals as goal

pub returns : goal.returns
returns g c = λ text trailing fits. exactly_one_whole g.T.Table.fields trailing text fits
