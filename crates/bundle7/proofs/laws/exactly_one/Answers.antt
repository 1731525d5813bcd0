use Rattle.bundle7.specs.Table.{bundle}
use Rattle.wire_fields.proofs.StayLemmas.{exactly_one}
use Rattle.bundle7.proofs.laws.exactly_one.Goals as goal

pub returns : goal.returns
returns c = exactly_one (bundle 64)
