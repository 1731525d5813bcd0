use Rattle.peer_session_laws.proofs.EndLemmas.{ends-are-told}
use Rattle.peer_session_laws.proofs.laws.ends_are_told.Goals as goal

pub returns : goal.returns
returns c = ends-are-told
