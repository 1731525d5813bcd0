-- A face's load, told of the blocks, the datagrams and the pieces that are there.

use Rattle.std.specs.Prelude.{ℕ, ◌+◌, List, [], ◌∷◌, ◌++◌, drop, map}
use Rattle.std.specs.List.{sum_by}
use Rattle.piece_gathering.specs.declared.piece.Piece.{Piece}
use Rattle.piece_gathering.specs.Gathered.{front_of}
use Rattle.face_room.specs.declared.bounds.Bounds.{Bounds}
use Rattle.face_room.specs.declared.load.Load.{Load}
use Rattle.face_room.specs.Bounds.{need}
use Rattle.face_room.specs.Loads.{with_sizes, no_blocks}

-- the octets of each block that is being sent, and of each datagram in the outbox; the pieces that wait, in
-- order; and the number of the next session
pub record FaceValue : Type 0 where
  pub blocks : List ℕ
  pub outbox : List ℕ
  pub pieces : List Piece
  pub next_session : ℕ

abbrev pub total : List ℕ → ℕ
total octets = sum_by (λ (n : ℕ). n) octets

abbrev pub sizes_of : List Piece → List ℕ
sizes_of pieces = map (λ (piece : Piece). piece.size) pieces

-- the octets that are kept
abbrev pub kept_at : ℕ → FaceValue → ℕ
kept_at segment face = total face.blocks + total face.outbox + sum_by (need segment) (sizes_of face.pieces)

abbrev pub load_of : Bounds → FaceValue → Load
load_of b face = record {
  next_session = face.next_session;
  kept = kept_at b.segment face;
  waiting = with_sizes b.wanted no_blocks (sizes_of face.pieces);
}

-- pieces wait after those that do
abbrev pub with_waiting : FaceValue → List Piece → FaceValue
with_waiting face pieces = record face { pieces = face.pieces ++ pieces }

-- The pieces in front go as a block of so many octets: they wait no longer, the block is being sent, and
-- datagrams of it are in the outbox.
abbrev pub with_gone : Bounds → FaceValue → ℕ → List ℕ → FaceValue
with_gone b face block datagrams = record {
  blocks = face.blocks ++ block ∷ [];
  outbox = face.outbox ++ datagrams;
  pieces = drop (front_of b.wanted face.pieces).count face.pieces;
  next_session = face.next_session + 1;
}
