use Rattle.peer_sessions.proofs.TouchLemmas.{moments_are_touched}
use Rattle.peer_sessions.proofs.laws.moments_are_touched.Goals as goal

pub returns : goal.returns
returns c = moments_are_touched
