-- What holds of gatherings.

use Rattle.std.specs.Prelude.{◌≡◌, ℕ, ◌+◌, ◌-◌, ◌<◌, ◌≤◌, true, List, [], ◌∷◌, ◌++◌, length}
use Rattle.std.specs.List.{All}
use Rattle.piece_gathering.specs.declared.piece.Piece.{Piece}
use Rattle.piece_gathering.specs.declared.piece.TheConstants.{BLOCK_MAX}
use Rattle.piece_gathering.specs.Gathered.{GatheringValue, sizes, octets_of, front_in, is_complete, ready, added_to, going}
use Rattle.piece_gathering.specs.Runs.{Event, added_by, gone_by, after_events}

-- what went and what waits are what waited and what was added: each piece once, in order
abbrev pub InOrder : Type 0
InOrder = (events : List Event) (g : GatheringValue)
    → gone_by events g ++ (after_events events g).waiting ≡ g.waiting ++ added_by events

-- a piece fits into a block, and its octets are at most as many as its size says
pub record IsSized (piece : Piece) : Type 0 where
  pub within : piece.size ≤ BLOCK_MAX
  pub octets : length piece.octets ≤ piece.size

-- no block is longer than a session carries
abbrev pub BlocksFit : Type 0
BlocksFit = (g : GatheringValue) (now : ℕ) → All IsSized g.waiting
    → (sizes (going g now) ≤ BLOCK_MAX) × (length (octets_of (going g now)) ≤ BLOCK_MAX)

-- pieces that were added one after the other, none before a moment
abbrev pub AreSince : ℕ → List Piece → Type 0
AreSince moment [] = Unit {0}
AreSince moment (piece ∷ pieces) = (moment ≤ piece.added) × AreSince piece.added pieces

-- where nothing is ready, no piece has waited as long as it may
abbrev pub NoneWaitsLate : Type 0
NoneWaitsLate = (g : GatheringValue) (now : ℕ) → AreSince 0 g.waiting → ready g now ≡ 0
    → All (λ (piece : Piece). now - piece.added < g.wait_ms) g.waiting

-- where at most one octet is wanted, each piece with an octet goes alone, whatever the moment
abbrev pub PiecesAlone : Type 0
PiecesAlone = (wanted wait_ms now : ℕ) (piece : Piece) (pieces : List Piece) → wanted ≤ 1 → 1 ≤ piece.size
    → ready (record { wanted = wanted; wait_ms = wait_ms; waiting = piece ∷ pieces }) now ≡ 1

-- all that wait would go together, and too few octets wait for that
pub record IsGathering (g : GatheringValue) : Type 0 where
  pub all : (front_in g).count ≡ length g.waiting
  pub sum : (front_in g).size ≡ sizes g.waiting
  pub few : sizes g.waiting < g.wanted

-- a piece that fits with all that wait goes with them, as soon as enough octets wait
pub record GoesWith (g : GatheringValue) (piece : Piece) : Type 0 where
  pub all : (front_in (added_to g piece)).count ≡ length (added_to g piece).waiting
  pub size : (front_in (added_to g piece)).size ≡ sizes (added_to g piece).waiting
  pub enough : is_complete (added_to g piece) ≡ true → g.wanted ≤ sizes g.waiting + piece.size
  pub complete : g.wanted ≤ sizes g.waiting + piece.size → is_complete (added_to g piece) ≡ true

-- one that doesn't fit waits after them, and they go
pub record GoesAfter (g : GatheringValue) (piece : Piece) : Type 0 where
  pub those : (front_in (added_to g piece)).count ≡ length g.waiting
  pub complete : is_complete (added_to g piece) ≡ true

-- what a piece that is added makes of those that wait
abbrev pub GathersAsSaid : Type 0
GathersAsSaid = (g : GatheringValue) (piece : Piece) → IsGathering g
    → (sizes g.waiting + piece.size ≤ BLOCK_MAX → GoesWith g piece)
    × (0 < length g.waiting → BLOCK_MAX < sizes g.waiting + piece.size → GoesAfter g piece)
