-- Segments and checkpoints of the code: ranges of places of a block.

use Rattle.std.specs.Prelude.{◌≡◌, ℕ, ◌^◌, ◌<◌, ◌≤◌, ◌==◌, List, [], ◌∷◌, length, map, slice_range, Option, None, Some, if◌then◌else◌}
use Rattle.ltp_segment.specs.declared.segment.PieceKind.{PieceKind}
use Rattle.ltp_segment.specs.declared.segment.PieceKind.TheVariants as kinds
use Rattle.ltp_segment.specs.Values.{PieceValue, ContentValue, a_piece}
use Rattle.ltp_session.specs.Sender.{piece_at, checkpoint_at, last_segment}
use Rattle.ltp_sender.specs.declared.segments.Segment.{Segment}
use Rattle.ltp_sender.specs.declared.segments.Checkpoint.{Checkpoint}

-- a range of a part of a block, as a segment of it
abbrev pub segment_in : List ℕ → Segment → ℕ × List ℕ
segment_in part segment = (segment.from, slice_range part segment.from segment.to)

-- it has a place, and none past the part
pub record IsOn (stop : ℕ) (segment : Segment) : Type 0 where
  pub some : segment.from < segment.to
  pub within : segment.to ≤ stop

-- a checkpoint of a red part, in a block of so many octets
abbrev pub checkpoint_value : ℕ → List ℕ → Checkpoint → PieceValue
checkpoint_value size part c =
    checkpoint_at size (length part) c.serial c.report (segment_in part c.segment)

-- a checkpoint that can be sent: it is on the red part, and its serial is below the last one
pub record IsCheckpoint (red : ℕ) (c : Checkpoint) : Type 0 where
  pub on : IsOn red c.segment
  pub first : 0 < c.serial
  pub last : c.serial < 2 ^ 32

-- segments of a red part, as pieces that are no checkpoints
abbrev pub plain_pieces : List ℕ → List Segment → List ContentValue
plain_pieces part [] = []
plain_pieces part (segment ∷ segments) =
    a_piece (piece_at kinds.Red 0 0 (segment_in part segment)) ∷ plain_pieces part segments

-- the last of some segments, as a checkpoint with these serials
abbrev pub IsLast :
    List ℕ → List Segment → ℕ → ℕ → Option Checkpoint → Type 0
IsLast part segments serial report None = last_segment (map (segment_in part) segments) ≡ None
IsLast part segments serial report (Some c) =
    (last_segment (map (segment_in part) segments) ≡ Some (segment_in part c.segment))
    × IsOn (length part) c.segment × (c.serial ≡ serial) × (c.report ≡ report)

-- the kind of a green piece that stops at a place of a block of so many octets
abbrev pub green_kind : ℕ → ℕ → PieceKind
green_kind size stop = if stop == size then kinds.GreenEndBlock else kinds.Green
