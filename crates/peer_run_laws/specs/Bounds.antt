-- What a face keeps of what it sends stays within half of its memory.

use Rattle.std.specs.Prelude.{◌≡◌, ℕ, ◌+◌, ◌<◌, ◌≤◌, ◌^◌, true, List, [], ◌∷◌}
use Rattle.std.specs.List.{All, AllByRecursion}
use Rattle.ltp_session.specs.Table.{AreAscending}
use Rattle.gate_cases.specs.declared.face.Face.{Face}
use Rattle.gateway_core.specs.Gate.{at_face}
use Rattle.face_room.specs.Bounds.{half}
use Rattle.peer_cases.specs.declared.settings.PeerSettings.{PeerSettings}
use Rattle.peer_sessions.specs.Keys.{FaceKeys}
use Rattle.peer_gateway.specs.Keys.{AreKeys, PeerSetup}
use Rattle.peer_gateway.specs.Gate.{AddedAt, PeerFace, PeerGate, PeerMoments, is_at, kept_inside}
use Rattle.peer_gateway.specs.Steps.{PeerEvent, does, peer_gate_after}
use Rattle.peer_gateway.specs.Faces.{IsSized}
use Rattle.peer_half.specs.Laws.{outbox_at}
use Rattle.peer_half.specs.Runs.{EventIn, Run, events_of, first_gate, setup_of, stands_at}
use Rattle.peer_run_laws.specs.Faces.{step_with}

-- The sending sessions of a face stand in the order of their numbers. Whenever a piece goes that waits there, it has
-- no more octets than its size says. And the blocks that are being sent, what the waiting pieces will need, and what is
-- in the outbox, with so much more, are at most half of the face's memory.
pub record IsWithinBy (more : ℕ) (s : PeerSettings) (k : FaceKeys) (at : Face) (f : PeerFace) : Type 0 where
  pub ordered : AreAscending 0 ((f.sessions).engine).senders
  pub sized : All (IsSized s at) (f.gathering).waiting
  pub within : kept_inside k f + f.queued + more ≤ half k.bounds

abbrev pub IsWithinHalf : PeerSetup → Face → PeerGate → Type 0
IsWithinHalf s at g = IsWithinBy 0 s.settings (at_face s.keys at) at (at_face g.faces at)

-- each piece that is added at a face has such a size
abbrev pub AreSizedAt : PeerSettings → Face → List AddedAt → Type 0
AreSizedAt s at added = AllByRecursion (λ (a : AddedAt). is_at at a.face ≡ true → IsSized s at a.piece) added

-- ---- with an event

-- what holds of a face still holds after an event
abbrev pub StaysWithinHalf : Type 0
StaysWithinHalf = (s : PeerSetup) (event : PeerEvent) (m : PeerMoments) (at : Face) (g : PeerGate)
    → AreKeys (at_face s.keys at) → m.leaves at < 2 ^ 64
    → AreSizedAt s.settings at ((does s event m g).effects).added
    → IsWithinHalf s at g → IsWithinHalf s at (does s event m g).gate

-- ---- over a run

-- with each of some events, the newest first, the pieces that are added at a face have such a size; and the moment at
-- which they leave is one of 64 bits
unfoldable pub AddSized : PeerSetup → Face → PeerGate → List EventIn → Type 0
AddSized s at g [] = Unit {0}
AddSized s at g (event ∷ earlier) =
    (event.1.0.leaves at < 2 ^ 64)
    × (AreSizedAt s.settings at ((step_with s (peer_gate_after s g earlier) event).effects).added
    × AddSized s at g earlier)

-- so it is after each half of a run of a runnable file
abbrev pub StaysWithinInRuns : Type 0
StaysWithinInRuns = (r : Run) (at : Face) → AreKeys (at_face (setup_of r).keys at)
    → AddSized (setup_of r) at (first_gate r) (events_of r)
    → IsWithinHalf (setup_of r) at (stands_at r).gate
    × (kept_inside (at_face (setup_of r).keys at) (at_face ((stands_at r).gate).faces at) + outbox_at at (stands_at r)
    ≤ half (at_face (setup_of r).keys at).bounds)
