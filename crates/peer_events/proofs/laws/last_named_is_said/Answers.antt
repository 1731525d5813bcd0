use Rattle.peer_events.proofs.OrderLemmas.{last-named-said}
use Rattle.peer_events.proofs.laws.last_named_is_said.Goals as goal

pub returns : goal.returns
returns c = last-named-said
