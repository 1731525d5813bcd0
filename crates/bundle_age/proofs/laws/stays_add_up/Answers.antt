use Rattle.bundle_age.proofs.ViewLemmas.{stays_add_up}
use Rattle.bundle_age.proofs.laws.stays_add_up.Goals as goal

pub returns : goal.returns
returns c = stays_add_up
