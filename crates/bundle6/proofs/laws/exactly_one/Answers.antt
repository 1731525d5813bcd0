use Rattle.wire_fields.proofs.StayLemmas.{exactly_one}
use Rattle.bundle6.specs.Table.{bundle}
use Rattle.bundle6.proofs.laws.exactly_one.Goals as goal

pub returns : goal.returns
returns c = λ text fits. exactly_one (bundle 64) text fits
