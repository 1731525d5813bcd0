use Rattle.peer_session_laws.proofs.RiseLemmas.{numbers-go-on}
use Rattle.peer_session_laws.proofs.laws.numbers_go_on.Goals as goal

pub returns : goal.returns
returns c = numbers-go-on
