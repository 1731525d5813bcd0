use Rattle.peer_session_laws.proofs.FaceLemmas.{are-of-their-faces, are-of-their-faces-in-runs}
use Rattle.peer_session_laws.proofs.laws.are_of_their_faces.Goals as goal

pub returns-clause-events : goal.returns-clause-events
returns-clause-events c = are-of-their-faces

pub returns-clause-runs : goal.returns-clause-runs
returns-clause-runs c = are-of-their-faces-in-runs c.gate_is_of_events.ensures
