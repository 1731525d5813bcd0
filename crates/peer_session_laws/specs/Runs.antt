-- What happens at each face in a run.

use Rattle.std.specs.Prelude.{◌≡◌, List, ◌++◌}
use Rattle.gate_cases.specs.declared.face.Face.{Face}
use Rattle.gateway_core.specs.Gate.{at_face}
use Rattle.peer_once.specs.Runs as once
use Rattle.peer_once.specs.Runs.{TimedEvent, sessions_in}
use Rattle.peer_half.specs.Runs.{Run, events_of, marked_before, setup_of, stands_at}
use Rattle.peer_session_laws.specs.Events.{Beginning, events_at, face_of}

-- A run begins by its setup, at the first reading of the wall clock at each face. The sessions that are marked then
-- are remembered for good.
abbrev pub beginning_of : Run → Beginning
beginning_of r = record { setup = setup_of r; start = (r.wall, r.wall); marks = marked_before r }

abbrev pub face_in : Run → Face → once.Face
face_in r at = face_of (beginning_of r) at

-- all that happened at a face in a run, the newest first
abbrev pub happened_at : Run → Face → List TimedEvent
happened_at r at = events_at (beginning_of r) at (events_of r)

-- the first of these, till some moment of the run
abbrev pub IsPast : Run → Face → List TimedEvent → Type 0
IsPast r at events = (later : List TimedEvent) × (happened_at r at ≡ later ++ events)

-- After a run the sessions of each face are what that made of sessions at their beginning.
abbrev pub AreOfTheirFacesInRuns : Type 0
AreOfTheirFacesInRuns = (r : Run) (at : Face)
    → (at_face (stands_at r).gate.faces at).sessions ≡ sessions_in (face_in r at) (happened_at r at)
