use Rattle.peer_sessions.proofs.StaleLemmas.{none_is_stale}
use Rattle.peer_sessions.proofs.laws.none_is_stale.Goals as goal

pub returns : goal.returns
returns c = none_is_stale
