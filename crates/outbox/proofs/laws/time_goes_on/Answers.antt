use Rattle.outbox.proofs.TimeLemmas.{time-goes-on}
use Rattle.outbox.proofs.laws.time_goes_on.Goals as goal

pub returns : goal.returns
returns c = time-goes-on
