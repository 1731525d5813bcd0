use Rattle.peer_session_laws.proofs.RiseLemmas.{numbers-rise}
use Rattle.peer_session_laws.proofs.laws.numbers_rise.Goals as goal

pub returns : goal.returns
returns c = numbers-rise
