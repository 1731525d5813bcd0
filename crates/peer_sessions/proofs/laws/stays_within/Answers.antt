use Rattle.peer_sessions.proofs.OrderLemmas.{stays_within}
use Rattle.peer_sessions.proofs.laws.stays_within.Goals as goal

pub returns : goal.returns
returns c = stays_within
