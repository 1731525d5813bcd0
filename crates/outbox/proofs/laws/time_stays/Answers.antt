use Rattle.outbox.proofs.TimeLemmas.{time-stays}
use Rattle.outbox.proofs.laws.time_stays.Goals as goal

pub returns : goal.returns
returns c = time-stays
