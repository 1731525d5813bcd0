-- The segments that can be written: those that the table of segments spells.

use Rattle.std.specs.Prelude.{◌≡◌, ℕ, ◌+◌, ◌-◌, ◌^◌, ◌<◌, ◌≤◌, Bool, true, false, List, [], ◌∷◌}
use Rattle.std.specs.Prelude.{length}
use Rattle.ltp_segment.specs.declared.segment.Claim.{Claim}
use Rattle.ltp_segment.specs.Kinds.{is_checkpoint}
use Rattle.ltp_segment.specs.Values.{PieceValue, ReportValue, ContentValue, a_piece, a_report}
use Rattle.ltp_segment.specs.Values.{a_report_ack, a_sender_cancel, a_sender_cancel_ack}
use Rattle.ltp_segment.specs.Values.{a_receiver_cancel, a_receiver_cancel_ack, SegmentValue}

-- the serial numbers of a piece: that of a checkpoint isn't 0, and other pieces have none
abbrev pub AreSerials : Bool → ℕ → ℕ → Type 0
AreSerials true checkpoint report = (0 < checkpoint) × (checkpoint < 2 ^ 64) × (report < 2 ^ 64)
AreSerials false checkpoint report = (checkpoint ≡ 0) × (report ≡ 0)

pub record IsPiece (piece : PieceValue) : Type 0 where
  pub service : piece.service < 2 ^ 64
  pub range : piece.offset + length piece.body < 2 ^ 64
  pub serials : AreSerials (is_checkpoint piece.kind) piece.checkpoint piece.report

-- a claim within so many octets, after others that end there
pub record IsClaim (most end : ℕ) (claim : Claim) : Type 0 where
  pub some : 0 < claim.length
  pub begins : end ≤ claim.offset
  pub ends : claim.offset + claim.length ≤ most

abbrev pub AreClaims : ℕ → ℕ → List Claim → Type 0
AreClaims most end [] = Unit {0}
AreClaims most end (claim ∷ claims) =
    IsClaim most end claim × AreClaims most (claim.offset + claim.length) claims

pub record IsReport (report : ReportValue) : Type 0 where
  pub named : 0 < report.serial
  pub serial : report.serial < 2 ^ 64
  pub checkpoint : report.checkpoint < 2 ^ 64
  pub upper : report.upper < 2 ^ 64
  pub bounds : report.lower < report.upper
  pub claims : AreClaims (report.upper - report.lower) 0 report.claims

abbrev pub IsContent : ContentValue → Type 0
IsContent (a_piece piece) = IsPiece piece
IsContent (a_report report) = IsReport report
IsContent (a_report_ack serial) = serial < 2 ^ 64
IsContent (a_sender_cancel reason) = reason < 256
IsContent a_sender_cancel_ack = Unit {0}
IsContent (a_receiver_cancel reason) = reason < 256
IsContent a_receiver_cancel_ack = Unit {0}

pub record IsSegment (s : SegmentValue) : Type 0 where
  pub originator : s.originator < 2 ^ 64
  pub session : s.session < 2 ^ 64
  pub content : IsContent s.content
