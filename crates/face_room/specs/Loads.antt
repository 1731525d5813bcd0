-- What a face has to send, in numbers, and whether it has room for more (own rule).

use Rattle.std.specs.Prelude.{ℕ, ◌+◌, ◌==◌, nat_le, Bool, ◌&&◌, ◌||◌, if◌then◌else◌, List, [], ◌∷◌}
use Rattle.std.specs.List.{list_all, sum_by}
use Rattle.piece_gathering.specs.Gathered.{is_apart}
use Rattle.face_room.specs.declared.bounds.Bounds.{Bounds}
use Rattle.face_room.specs.declared.bounds.TheConstants.{BLOCK_MAX, NUMBERS}
use Rattle.face_room.specs.declared.load.Load.{Load}
use Rattle.face_room.specs.declared.load.Waiting.{Waiting}
use Rattle.face_room.specs.Bounds.{for_pieces, need}

-- ---- the blocks that waiting pieces make

abbrev pub no_blocks : Waiting
no_blocks = record { blocks = 0; last = 0 }

-- a piece of so many octets begins a block, where there is none or it doesn't go with the last one; else
-- that one grows
unfoldable pub with_size : ℕ → Waiting → ℕ → Waiting
with_size wanted w size =
    if w.blocks == 0 || is_apart wanted w.last size
    then record { blocks = w.blocks + 1; last = size }
    else record { blocks = w.blocks; last = w.last + size }

-- pieces do, one after the other
unfoldable pub with_sizes : ℕ → Waiting → List ℕ → Waiting
with_sizes wanted w [] = w
with_sizes wanted w (size ∷ sizes) = with_sizes wanted (with_size wanted w size) sizes

-- ---- loads

-- pieces of these sizes wait too
abbrev pub with_pieces : Bounds → Load → List ℕ → Load
with_pieces b l sizes = record {
  next_session = l.next_session;
  kept = l.kept + sum_by (need b.segment) sizes;
  waiting = with_sizes b.wanted l.waiting sizes;
}

-- There is a number for the session of each block that waits, and what is kept is at most what pieces may
-- fill. A block waits until a session is free, so it needs none yet.
unfoldable pub is_within : Bounds → Load → Bool
is_within b l =
    nat_le (l.next_session + l.waiting.blocks) NUMBERS && nat_le l.kept (for_pieces b)

-- ---- room

-- with pieces of these sizes a face is within its bounds, and a session carries each of them
unfoldable pub has_room : Bounds → Load → List ℕ → Bool
has_room b l sizes = list_all (λ size. nat_le size BLOCK_MAX) sizes && is_within b (with_pieces b l sizes)
