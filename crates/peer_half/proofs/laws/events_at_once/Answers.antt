use Rattle.peer_half.proofs.EventLemmas.{events-at-once}
use Rattle.peer_half.proofs.laws.events_at_once.Goals as goal

pub returns : goal.returns
returns c = events-at-once
