-- What a face may keep (own rule).

use Rattle.std.specs.Prelude.{ℕ, ◌+◌, ◌*◌, ◌/◌, ◌^◌, ◌<◌, ◌≤◌}
use Rattle.std.specs.Int.{div_ceil}
use Rattle.face_room.specs.declared.bounds.Bounds.{Bounds}
use Rattle.face_room.specs.declared.bounds.TheConstants.{HEADER_MAX}

-- segments have data, and numbers can count the octets
pub record AreBounds (b : Bounds) : Type 0 where
  pub segment : 0 < b.segment
  pub memory : b.memory ≤ 2 ^ 40

-- half of the memory is for what is sent, and half for what is received
abbrev pub half : Bounds → ℕ
half b = b.memory / 2

-- what new pieces may fill of it; a sixteenth is for signals, and for what is sent again
abbrev pub for_pieces : Bounds → ℕ
for_pieces b = half b * 15 / 16

-- what is kept at most for a block of so many octets, sent in segments of so many: the block, its octets in
-- datagrams, and the heads of those
abbrev pub need : ℕ → ℕ → ℕ
need segment octets = 2 * octets + HEADER_MAX * div_ceil octets segment
