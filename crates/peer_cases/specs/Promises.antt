-- What a caller can rely on: that there is room for what goes on.

use Rattle.std.specs.Prelude.{◌≡◌, ℕ, ◌<◌, ◌≤◌, true, List, length, map}
use Rattle.std.specs.List.{All}
use Rattle.gate_cases.specs.declared.case.GateCase.TheVariants.{Passed}
use Rattle.gate_cases.specs.declared.face.Face.{Face}
use Rattle.face_room.specs.declared.bounds.TheConstants.{BLOCK_MAX}
use Rattle.face_room.specs.Loads.{has_room}
use Rattle.peer_cases.specs.declared.decision.Decision.{Decision}
use Rattle.peer_cases.specs.declared.pieces.SizedPiece.{SizedPiece}
use Rattle.peer_cases.specs.declared.room.FaceRoom.{FaceRoom}
use Rattle.peer_cases.specs.declared.settings.PeerSettings.{PeerSettings}
use Rattle.peer_cases.specs.Arrivals.{Came}
use Rattle.peer_cases.specs.Cases.{decided}

abbrev pub size_of : SizedPiece → ℕ
size_of piece = piece.size

abbrev pub IsSmall : SizedPiece → Type 0
IsSmall piece = piece.size ≤ BLOCK_MAX

-- a session carries each of them
abbrev pub AreSmall : List SizedPiece → Type 0
AreSmall pieces = All IsSmall pieces

-- where a bundle goes on, there is a piece of it, and room for all of them
abbrev pub HasRoom : FaceRoom → Decision → Type 0
HasRoom room d =
    d.case ≡ Passed → (0 < length d.pieces) × (has_room room.bounds room.load (map size_of d.pieces) ≡ true)

pub record IsSendable (room : FaceRoom) (d : Decision) : Type 0 where
  pub small : AreSmall d.pieces
  pub room_is : HasRoom room d

abbrev pub DecidedIsSendable : Type 0
DecidedIsSendable = (s : PeerSettings) (face : Face) (came : Came) (now cut : ℕ) (room : FaceRoom)
    → IsSendable room (decided s face came now cut room)
