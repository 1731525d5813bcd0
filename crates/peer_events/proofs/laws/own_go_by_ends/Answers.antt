use Rattle.peer_events.proofs.EndLemmas.{own-go}
use Rattle.peer_events.proofs.laws.own_go_by_ends.Goals as goal

pub returns : goal.returns
returns c = own-go
