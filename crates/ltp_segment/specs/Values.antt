-- An LTP segment as a value (RFC 5326, section 3). Extensions are no part of it.

use Rattle.std.specs.Prelude.{ℕ, List}
use Rattle.ltp_segment.specs.declared.segment.PieceKind.{PieceKind}
use Rattle.ltp_segment.specs.declared.segment.Claim.{Claim}

-- octets of a block; the serials are 0 where the piece is no checkpoint
pub record PieceValue : Type 0 where
  pub kind : PieceKind
  pub service : ℕ
  pub offset : ℕ
  pub checkpoint : ℕ
  pub report : ℕ
  pub body : List ℕ

-- which octets of a red part have come; the claims' offsets count from the lower bound
pub record ReportValue : Type 0 where
  pub serial : ℕ
  pub checkpoint : ℕ
  pub upper : ℕ
  pub lower : ℕ
  pub claims : List Claim

-- what a segment says: serials and reasons are its numbers
pub data ContentValue : Type 0 where
  a_piece : PieceValue → ContentValue
  a_report : ReportValue → ContentValue
  a_report_ack : ℕ → ContentValue
  a_sender_cancel : ℕ → ContentValue
  a_sender_cancel_ack : ContentValue
  a_receiver_cancel : ℕ → ContentValue
  a_receiver_cancel_ack : ContentValue

pub record SegmentValue : Type 0 where
  pub originator : ℕ
  pub session : ℕ
  pub content : ContentValue
