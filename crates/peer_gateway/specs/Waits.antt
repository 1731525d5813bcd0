-- What waiting pieces will take at their face, as the code keeps it.

use Rattle.std.specs.Prelude.{ℕ, ◌+◌, ◌-◌, Bool, if◌then◌else◌, List}
use Rattle.std.specs.List.{sum_by}
use Rattle.piece_gathering.specs.declared.piece.Piece.{Piece}
use Rattle.face_room.specs.declared.bounds.Bounds.{Bounds}
use Rattle.face_room.specs.Bounds.{need}
use Rattle.face_room.specs.Faces.{sizes_of}
use Rattle.face_room.specs.Loads.{no_blocks, with_size, with_sizes}
use Rattle.peer_gateway.specs.declared.waits.Waits.{Waits}

-- what pieces need, and the blocks that they make
abbrev pub waits_of : Bounds → List Piece → Waits
waits_of b pieces = record {
  needs = sum_by (need b.segment) (sizes_of pieces);
  waiting = with_sizes b.wanted no_blocks (sizes_of pieces);
}

abbrev pub no_waits : Waits
no_waits = record { needs = 0; waiting = no_blocks }

-- with one more of so many octets
abbrev pub waits_with : Bounds → Waits → ℕ → Waits
waits_with b w size =
    record { needs = w.needs + need b.segment size; waiting = with_size b.wanted w.waiting size }

-- once the pieces in front went, which needed so much; where others wait on, they make one block less
abbrev pub waits_after : Waits → ℕ → Bool → Waits
waits_after w needs waits_on = record {
  needs = w.needs - needs;
  waiting = if waits_on then record { blocks = w.waiting.blocks - 1; last = w.waiting.last } else no_blocks;
}
