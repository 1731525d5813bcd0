-- The pieces in front, as the code keeps them.

use Rattle.std.specs.Prelude.{ℕ, ◌+◌, ◌≤◌, ◌==◌, ◌&&◌, ◌||◌, not, if◌then◌else◌, List}
use Rattle.std.specs.List.{All}
use Rattle.piece_gathering.specs.declared.piece.Piece.{Piece}
use Rattle.piece_gathering.specs.declared.piece.TheConstants.{BLOCK_MAX}
use Rattle.piece_gathering.specs.declared.gathering.Front.{Front as Kept}
use Rattle.piece_gathering.specs.Gathered.{Front, is_apart}

abbrev pub front_value : Kept → Front
front_value front = record { count = front.count; size = front.size }

-- each fits into a block
abbrev pub AreWithin : List Piece → Type 0
AreWithin pieces = All (λ (piece : Piece). piece.size ≤ BLOCK_MAX) pieces

-- the pieces in front once a piece of so many octets waits after so many others
abbrev pub front_after : ℕ → Front → ℕ → ℕ → Front
front_after wanted front waiting size =
    if waiting == 0 || (front.count == waiting && not (is_apart wanted front.size size))
    then record { count = front.count + 1; size = front.size + size }
    else front
