use Rattle.peer_sessions.proofs.FitLemmas.{read-fit}
use Rattle.peer_sessions.proofs.sessions.PeerSessions.arrive.Goals as goal

pub hear-requires-clause-fit : goal.hear-requires-clause-fit
hear-requires-clause-fit c = read-fit c.decode.result c.args.datagram.now c.decode.ensures.found
