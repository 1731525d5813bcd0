-- Pieces that wait, and the block that goes next (own rule).

use Rattle.std.specs.Prelude.{ℕ, ◌+◌, ◌-◌, Bool, false, ◌||◌, nat_lt, nat_le, if◌then◌else◌, List, [], ◌∷◌, ◌++◌, length, take, drop}
use Rattle.std.specs.List.{sum_by, flat_map}
use Rattle.piece_gathering.specs.declared.piece.Piece.{Piece}
use Rattle.piece_gathering.specs.declared.piece.TheConstants.{BLOCK_MAX}

-- how many octets are wanted in a block, and how many milliseconds a piece waits at most; and the pieces
-- that wait, in order
pub record GatheringValue : Type 0 where
  pub wanted : ℕ
  pub wait_ms : ℕ
  pub waiting : List Piece

abbrev pub sizes : List Piece → ℕ
sizes pieces = sum_by (λ (piece : Piece). piece.size) pieces

-- the octets of a block
abbrev pub octets_of : List Piece → List ℕ
octets_of pieces = flat_map (λ (piece : Piece). piece.octets) pieces

-- and how many those are
abbrev pub octets_waiting : List Piece → ℕ
octets_waiting pieces = sum_by (λ (piece : Piece). length piece.octets) pieces

-- ---- the pieces in front that go together

-- how many they are, and their sizes together
pub record Front : Type 0 where
  pub count : ℕ
  pub size : ℕ

abbrev pub no_front : Front
no_front = record { count = 0; size = 0 }

abbrev pub with_piece : Front → Piece → Front
with_piece front piece = record { count = front.count + 1; size = front.size + piece.size }

-- the next piece, of so many octets, doesn't go with them: they have as many as are wanted, or with it they
-- would be longer than a session carries
abbrev pub is_apart : ℕ → ℕ → ℕ → Bool
is_apart wanted size more = nat_le wanted size || nat_lt BLOCK_MAX (size + more)

unfoldable pub front_from : ℕ → Front → List Piece → Front
front_from wanted front [] = front
front_from wanted front (piece ∷ pieces) =
    if is_apart wanted front.size piece.size then front else front_from wanted (with_piece front piece) pieces

-- the first piece, and those that go with it
abbrev pub front_of : ℕ → List Piece → Front
front_of wanted [] = no_front
front_of wanted (piece ∷ pieces) = front_from wanted (with_piece no_front piece) pieces

abbrev pub front_in : GatheringValue → Front
front_in g = front_of g.wanted g.waiting

-- ---- when they go

-- they have as many octets as are wanted, or the next piece doesn't go with them
abbrev pub is_complete : GatheringValue → Bool
is_complete g = nat_le g.wanted (front_in g).size || nat_lt (front_in g).count (length g.waiting)

-- the first piece has waited as long as it may
abbrev pub is_late : ℕ → ℕ → List Piece → Bool
is_late wait_ms now [] = false
is_late wait_ms now (piece ∷ pieces) = nat_le wait_ms (now - piece.added)

-- how many pieces are ready to go at a moment, as one block
unfoldable pub ready : GatheringValue → ℕ → ℕ
ready g now = if is_complete g || is_late g.wait_ms now g.waiting then (front_in g).count else 0

-- ---- steps

abbrev pub nothing_waits : ℕ → ℕ → GatheringValue
nothing_waits wanted wait_ms = record { wanted = wanted; wait_ms = wait_ms; waiting = [] }

-- a piece waits after the others
abbrev pub added_to : GatheringValue → Piece → GatheringValue
added_to g piece = record g { waiting = g.waiting ++ piece ∷ [] }

-- the pieces of the block that goes, and what waits on
abbrev pub going : GatheringValue → ℕ → List Piece
going g now = take (ready g now) g.waiting

abbrev pub gone_from : GatheringValue → ℕ → GatheringValue
gone_from g now = record g { waiting = drop (ready g now) g.waiting }
