use Rattle.peer_serve_laws.proofs.SessionLemmas.{sessions-alike}
use Rattle.peer_serve_laws.proofs.laws.sessions_alike.Goals as goal

pub returns : goal.returns
returns c = sessions-alike
