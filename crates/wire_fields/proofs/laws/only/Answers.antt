use Rattle.wire_fields.proofs.StayLemmas.{begins-read}
use Rattle.wire_fields.proofs.laws.only.Goals as goal

pub returns : goal.returns
returns g c = λ text k a begins. begins-read g.T.Table.fields text k a begins
