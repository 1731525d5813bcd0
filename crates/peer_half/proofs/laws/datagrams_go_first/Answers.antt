use Rattle.peer_half.proofs.OrderLemmas.{datagrams-go-first}
use Rattle.peer_half.proofs.laws.datagrams_go_first.Goals as goal

pub returns : goal.returns
returns c = datagrams-go-first
