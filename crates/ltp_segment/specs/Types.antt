-- The segment types (RFC 5326, section 3.1): what the low half of the control octet says.

use Rattle.std.specs.Prelude.{ℕ, List, [], ◌∷◌, Option, Some, None, slice_index_or}
use Rattle.ltp_segment.specs.declared.segment.PieceKind.TheVariants as kinds
use Rattle.ltp_segment.specs.declared.segment.SegmentType.{SegmentType}
use Rattle.ltp_segment.specs.declared.segment.SegmentType.TheVariants as types

-- the types from 0 to 15; four are not in use
abbrev pub segment_types : List (Option SegmentType)
segment_types =
    Some (types.Piece kinds.Red)  -- 0
    ∷ Some (types.Piece kinds.RedCheckpoint)  -- 1
    ∷ Some (types.Piece kinds.RedEnd)  -- 2
    ∷ Some (types.Piece kinds.RedEndBlock)  -- 3
    ∷ Some (types.Piece kinds.Green)  -- 4
    ∷ None  -- 5
    ∷ None  -- 6
    ∷ Some (types.Piece kinds.GreenEndBlock)  -- 7
    ∷ Some types.Report  -- 8
    ∷ Some types.ReportAck  -- 9
    ∷ None  -- 10
    ∷ None  -- 11
    ∷ Some types.SenderCancel  -- 12
    ∷ Some types.SenderCancelAck  -- 13
    ∷ Some types.ReceiverCancel  -- 14
    ∷ Some types.ReceiverCancelAck  -- 15
    ∷ []

-- the type with a number
unfoldable pub type_at : ℕ → Option SegmentType
type_at number = slice_index_or segment_types number None
