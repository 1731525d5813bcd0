-- The kinds of pieces (RFC 5326, section 3.1).

use Rattle.std.specs.Prelude.{Bool, true, false}
use Rattle.ltp_segment.specs.declared.segment.PieceKind.{PieceKind}
use Rattle.ltp_segment.specs.declared.segment.PieceKind.TheVariants as kinds

-- the piece belongs to the red part
abbrev pub is_red : PieceKind → Bool
is_red kinds.Red = true
is_red kinds.RedCheckpoint = true
is_red kinds.RedEnd = true
is_red kinds.RedEndBlock = true
is_red kinds.Green = false
is_red kinds.GreenEndBlock = false

-- the piece asks for a report
abbrev pub is_checkpoint : PieceKind → Bool
is_checkpoint kinds.Red = false
is_checkpoint kinds.RedCheckpoint = true
is_checkpoint kinds.RedEnd = true
is_checkpoint kinds.RedEndBlock = true
is_checkpoint kinds.Green = false
is_checkpoint kinds.GreenEndBlock = false

-- the red part ends with the piece
abbrev pub ends_red_part : PieceKind → Bool
ends_red_part kinds.Red = false
ends_red_part kinds.RedCheckpoint = false
ends_red_part kinds.RedEnd = true
ends_red_part kinds.RedEndBlock = true
ends_red_part kinds.Green = false
ends_red_part kinds.GreenEndBlock = false

-- the block ends with the piece
abbrev pub ends_block : PieceKind → Bool
ends_block kinds.Red = false
ends_block kinds.RedCheckpoint = false
ends_block kinds.RedEnd = false
ends_block kinds.RedEndBlock = true
ends_block kinds.Green = false
ends_block kinds.GreenEndBlock = true
