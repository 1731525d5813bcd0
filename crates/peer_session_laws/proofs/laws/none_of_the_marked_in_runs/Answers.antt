use Rattle.peer_session_laws.proofs.OnceLemmas.{none-of-the-marked-in-runs}
use Rattle.peer_session_laws.proofs.laws.none_of_the_marked_in_runs.Goals as goal

pub returns : goal.returns
returns c = none-of-the-marked-in-runs c.none_of_the_marked.ensures
