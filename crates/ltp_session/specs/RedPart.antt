-- A red part, place by place (RFC 5326, section 6.9): which octets it has, how long it is, and when
-- it is whole. It is said by the pieces alone that came, without cells.

use Rattle.std.specs.Prelude.{◌≡◌, ℕ, zero, suc, ◌+◌, ◌<◌, All, Bool, true, false, ◌&&◌, max}
use Rattle.std.specs.Prelude.{List, [], ◌∷◌, length, take, slice_index, Option, None, Some}
use Rattle.std.specs.Prelude.{is_some, if◌then◌else◌}
use Rattle.ltp_session.specs.Cells.{octet_in, stop_of}
pub use Rattle.cells.specs.Cells.{or_else}

-- a piece of a red part: where it begins, whether the red part ends with it, and its octets
pub record RedPiece : Type 0 where
  pub offset : ℕ
  pub ends : Bool
  pub body : List ℕ

-- the place after its last octet
abbrev pub red_stop : RedPiece → ℕ
red_stop piece = stop_of piece.offset piece.body

-- ---- what the pieces give that came, the newest first

-- the first octet that came for a place
abbrev pub first_octet : List RedPiece → ℕ → Option ℕ
first_octet [] place = None
first_octet (piece ∷ earlier) place =
    or_else (first_octet earlier place) (octet_in piece.offset piece.body place)

-- the length of the red part, once a piece came with which it ends
abbrev pub red_length : List RedPiece → Option ℕ
red_length [] = None
red_length (piece ∷ earlier) =
    or_else (red_length earlier) (if piece.ends then Some (red_stop piece) else None)

-- the place after the last octet that came
abbrev pub red_reach : List RedPiece → ℕ
red_reach [] = 0
red_reach (piece ∷ earlier) = max (red_reach earlier) (red_stop piece)

-- for every place below this one an octet came
abbrev pub is_filled_below : ℕ → List RedPiece → Bool
is_filled_below zero pieces = true
is_filled_below (suc place) pieces = is_some (first_octet pieces place) && is_filled_below place pieces

-- the length is known, and every place below it is filled
abbrev pub is_whole_to : Option ℕ → List RedPiece → Bool
is_whole_to None pieces = false
is_whole_to (Some end) pieces = is_filled_below end pieces

abbrev pub is_whole : List RedPiece → Bool
is_whole pieces = is_whole_to (red_length pieces) pieces

-- the red part is this: one of the pieces ends it, and each place has the first octet that came
pub record IsRedPart (pieces : List RedPiece) (body : List ℕ) : Type 0 where
  pub ends : red_length pieces ≡ Some (length body)
  pub first : (k : ℕ) → k < length body → first_octet pieces k ≡ Some (slice_index body k)

-- by the pieces before, the red part wasn't whole; by these it is, and is this
pub record BecomesWhole (before pieces : List RedPiece) (body : List ℕ) : Type 0 where
  pub not_before : is_whole before ≡ false
  pub part : IsRedPart pieces body

-- ---- pieces of one block

-- every octet of the piece is the block's at its place
abbrev pub IsOfBlock : List ℕ → RedPiece → Type 0
IsOfBlock block piece = (k : ℕ) → k < length piece.body
    → (piece.offset + k < length block)
    × (slice_index piece.body k ≡ slice_index block (piece.offset + k))

-- where all pieces are of one block, the red part is the front of it
abbrev pub IsFrontOfBlock : Type 0
IsFrontOfBlock =
    (block : List ℕ) (pieces : List RedPiece) (body : List ℕ)
    → All (IsOfBlock block) pieces → IsRedPart pieces body → body ≡ take (length body) block
