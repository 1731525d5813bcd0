use Rattle.outbox.proofs.PaceLemmas.{keeps-pace}
use Rattle.outbox.proofs.laws.keeps_pace.Goals as goal

pub returns : goal.returns
returns c = keeps-pace
