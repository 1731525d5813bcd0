-- What holds of bounds, and of the room within them.

use Rattle.std.specs.Prelude.{◌≡◌, ℕ, ◌+◌, ◌*◌, ◌<◌, ◌≤◌, nat_le, true, ◌&&◌, List, [], ◌∷◌, ◌++◌, length, drop}
use Rattle.std.specs.Int.{div_ceil}
use Rattle.std.specs.List.{All, list_all, sum_by}
use Rattle.piece_gathering.specs.declared.piece.Piece.{Piece}
use Rattle.piece_gathering.specs.Gathered.{front_of}
use Rattle.face_room.specs.declared.bounds.Bounds.{Bounds}
use Rattle.face_room.specs.declared.bounds.TheConstants.{BLOCK_MAX, HEADER_MAX, NUMBERS}
use Rattle.face_room.specs.declared.load.Load.{Load}
use Rattle.face_room.specs.Bounds.{AreBounds, half, need, for_pieces}
use Rattle.face_room.specs.Queues.{may_wait, puts, queued_after}
use Rattle.face_room.specs.Loads.{no_blocks, with_sizes, is_within, has_room}
use Rattle.face_room.specs.Faces.{FaceValue, total, sizes_of, load_of, with_waiting, with_gone}

-- ---- an idle face

-- nothing is kept or waits, and a number is left
pub record IsIdle (l : Load) : Type 0 where
  pub kept : l.kept ≡ 0
  pub waiting : l.waiting ≡ no_blocks
  pub number : l.next_session < NUMBERS

-- with 32 MiB of memory or more, and segments of 512 octets or more, there is room for each piece that a
-- session carries
abbrev pub IdleHasRoom : Type 0
IdleHasRoom = (b : Bounds) (l : Load) (size : ℕ) → 33554432 ≤ b.memory → 512 ≤ b.segment → IsIdle l
    → size ≤ BLOCK_MAX → has_room b l (size ∷ []) ≡ true

-- ---- fewer pieces

abbrev pub FewerHaveRoom : Type 0
FewerHaveRoom = (b : Bounds) (l : Load) (first more : List ℕ) → has_room b l (first ++ more) ≡ true
    → has_room b l first ≡ true

-- ---- pieces alone

-- Where no piece waits, and each has as many octets as are wanted, each needs the number of a session of its
-- own. Where none is wanted, that is so of all pieces.
abbrev pub AloneEach : Type 0
AloneEach = (b : Bounds) (l : Load) (sizes : List ℕ) → l.waiting ≡ no_blocks → All (λ (n : ℕ). b.wanted ≤ n) sizes
    → has_room b l sizes
    ≡ (list_all (λ size. nat_le size BLOCK_MAX) sizes
    && (nat_le (l.next_session + length sizes) NUMBERS
    && nat_le (l.kept + sum_by (need b.segment) sizes) (for_pieces b)))

-- ---- blocks are fronts

-- waiting pieces make one block more than those that wait on once the pieces in front are gone
abbrev pub FrontsAreBlocks : Type 0
FrontsAreBlocks = (wanted : ℕ) (pieces : List Piece) → 0 < length pieces
    → (with_sizes wanted no_blocks (sizes_of pieces)).blocks
    ≡ 1 + (with_sizes wanted no_blocks (sizes_of (drop (front_of wanted pieces).count pieces))).blocks

-- ---- what has room goes

-- A session is free. A block has at most as many octets as its pieces may have, and its datagrams have a
-- head each.
pub record IsSent (b : Bounds) (face : FaceValue) (size : ℕ) (sent : List ℕ) : Type 0 where
  pub some : 0 < length face.pieces
  pub free : length face.blocks < b.sessions
  pub block : size ≤ (front_of b.wanted face.pieces).size
  pub datagrams : total sent ≤ size + HEADER_MAX * div_ceil size b.segment

-- a number is left for the block, and the face stays within its bounds
pub record GoesOn (b : Bounds) (face after : FaceValue) : Type 0 where
  pub sessions : length after.blocks ≤ b.sessions
  pub number : face.next_session < NUMBERS
  pub within : is_within b (load_of b after) ≡ true

-- Pieces for which there is room wait within the face's bounds. Of a face within them the pieces in front
-- go as soon as a session is free.
pub record AreSent (b : Bounds) (face : FaceValue) : Type 0 where
  pub waits : (pieces : List Piece) → has_room b (load_of b face) (sizes_of pieces) ≡ true
      → is_within b (load_of b (with_waiting face pieces)) ≡ true
  pub goes : (size : ℕ) (sent : List ℕ) → is_within b (load_of b face) ≡ true → IsSent b face size sent
      → GoesOn b face (with_gone b face size sent)

abbrev pub GoesWithin : Type 0
GoesWithin = (b : Bounds) (face : FaceValue) → AreBounds b → AreSent b face

-- ---- what waits in the outbox

-- Datagrams of these sizes are made, and so much is kept besides the outbox. Of each it is said whether it is put. No
-- more wait than may, and half of the memory isn't passed, where that was so before. Where all of them would be within
-- half of the memory, a datagram is dropped only where the outbox has no room for it.
pub record QueueWithin (b : Bounds) (kept queued : ℕ) (sizes : List ℕ) : Type 0 where
  pub each : length (puts (may_wait b kept) queued sizes) ≡ length sizes
  pub waits : queued ≤ b.outbox → queued_after (may_wait b kept) queued sizes ≤ b.outbox
  pub within : kept + queued ≤ half b → kept + queued_after (may_wait b kept) queued sizes ≤ half b
  pub alone : kept + (queued + total sizes) ≤ half b
      → puts (may_wait b kept) queued sizes ≡ puts (λ octets. nat_le octets b.outbox) queued sizes

abbrev pub QueuesWithin : Type 0
QueuesWithin = (b : Bounds) (kept queued : ℕ) (sizes : List ℕ) → QueueWithin b kept queued sizes
