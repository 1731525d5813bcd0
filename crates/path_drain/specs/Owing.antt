-- Room within a step of the gate, while it begins one session after the other.

use Rattle.std.specs.Prelude.{◌≡◌, ℕ, ◌+◌, ◌^◌, ◌≤◌, List, Err, ◌⊎◌}
use Rattle.ltp_session.specs.Engine.{SubmitFault, block_empty, block_too_large}
use Rattle.gate_cases.specs.declared.face.Face.{Face}
use Rattle.gate_cases.specs.declared.face.Face.TheVariants as faces
use Rattle.gateway_core.specs.Gate.{at_face, sends_at, submission_at}
use Rattle.path_laws.specs.Path.{Path, PathSetup, gate_does}
use Rattle.path_drain.specs.OnTheWay.{gate_at, node_at, will_begin}
use Rattle.path_drain.specs.PathRoom.{HasRoomFor, PathRoom}

-- So many sessions are still to be begun at each face within the step, beside those that it will
-- begin after it. There is room for all of them, and a number for each.
pub record RoomOwing (s : PathSetup) (w : Path) (owed : Face → ℕ) : Type 0 where
  pub nodes :
      (face : Face)
      → HasRoomFor 0 (will_begin s w face + owed face) (node_at w face) (gate_at w face)
  pub faces :
      (face : Face)
      → HasRoomFor (will_begin s w face + owed face) 0 (gate_at w face) (node_at w face)
  pub numbers : (face : Face) → (gate_at w face).next + (will_begin s w face + owed face) ≤ 2 ^ 32

-- one at a face, and none at the other
abbrev pub one_at : Face → Face → ℕ
one_at faces.Old faces.Old = 1
one_at faces.Old faces.New = 0
one_at faces.New faces.Old = 0
one_at faces.New faces.New = 1

-- between two events
abbrev pub none_owed : Face → ℕ
none_owed face = 0

-- ---- the laws

-- room on a path, with 64 numbers left at each face, is room for what it owes between two events
abbrev pub RoomStarts : Type 0
RoomStarts =
    (s : PathSetup) (w : Path) → PathRoom s w
    → ((face : Face) → (gate_at w face).next + 64 ≤ 2 ^ 32) → RoomOwing s w none_owed

-- where a session is owed at a face, and its engine sends 64 sessions at once, or more, a block is
-- refused there only for what it is itself
abbrev pub OwedHavePlace : Type 0
OwedHavePlace =
    (s : PathSetup) (w : Path) (at : Face) (block : List ℕ) (owed : Face → ℕ) (fault : SubmitFault)
    → 64 ≤ (at_face s.gate.parties at).sessions → RoomOwing s w owed → 1 ≤ owed at
    → submission_at s.gate at w.now block w.gate ≡ Err fault
    → (fault ≡ block_empty) ⊎ (fault ≡ block_too_large)

-- and once it is submitted, one session less is owed
abbrev pub SubmitsAreOwed : Type 0
SubmitsAreOwed =
    (s : PathSetup) (w : Path) (at : Face) (block : List ℕ) (owed owed' : Face → ℕ)
    → ((face : Face) → owed' face + one_at at face ≤ owed face) → RoomOwing s w owed
    → RoomOwing s (gate_does w (sends_at s.gate at w.now block w.gate)).path owed'
