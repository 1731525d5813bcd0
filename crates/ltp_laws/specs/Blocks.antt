-- A session keeps to its block: what is sent in it, and what its ends keep, are octets of one
-- block, whose first octets, so many, are its red part (RFC 5326, sections 3.2.1 and 6.21).

use Rattle.std.specs.Prelude.{◌≡◌, ℕ, ◌+◌, ◌<◌, ◌≤◌, Bool, true, false, List, length, slice_index}
use Rattle.std.specs.Prelude.{Option, None, Some}
use Rattle.std.specs.List.{AllByRecursion}
use Rattle.ltp_segment.specs.Kinds.{ends_red_part, is_red}
use Rattle.ltp_segment.specs.Values.{ContentValue, PieceValue, a_piece, a_receiver_cancel}
use Rattle.ltp_segment.specs.Values.{a_receiver_cancel_ack, a_report, a_report_ack}
use Rattle.ltp_segment.specs.Values.{a_sender_cancel, a_sender_cancel_ack}
use Rattle.ltp_session.specs.Cells.{cell}
use Rattle.ltp_session.specs.Receiver.{Receiving, piece_stop}
use Rattle.ltp_session.specs.Sender.{Sending, SendingPhase, sender_cancelling, sender_open}
use Rattle.ltp_laws.specs.Kept.{IfKept}
use Rattle.ltp_laws.specs.View.{View}

-- the block has this octet at a place
abbrev pub IsAt : List ℕ → ℕ → ℕ → Type 0
IsAt block k octet = (k < length block) × (slice_index block k ≡ octet)

-- some octets are the block's, from a place on
abbrev pub IsOf : List ℕ → ℕ → List ℕ → Type 0
IsOf block offset body = (k : ℕ) → k < length body → IsAt block (offset + k) (slice_index body k)

-- red octets stop within the red part, and those that end it stop at its length; green ones begin
-- there or later
abbrev pub IsInPart : ℕ → Bool → Bool → ℕ → ℕ → Type 0
IsInPart red true true from to = to ≡ red
IsInPart red true false from to = to ≤ red
IsInPart red false last from to = red ≤ from

-- a piece of the block, for client service 1
pub record IsPieceOf (block : List ℕ) (red : ℕ) (p : PieceValue) : Type 0 where
  pub service : p.service ≡ 1
  pub octets : IsOf block p.offset p.body
  pub part : IsInPart red (is_red p.kind) (ends_red_part p.kind) p.offset (piece_stop p)

-- a content that is a piece is one of the block
abbrev pub IsContentOf : List ℕ → ℕ → ContentValue → Type 0
IsContentOf block red (a_piece p) = IsPieceOf block red p
IsContentOf block red (a_report report) = Unit {0}
IsContentOf block red (a_report_ack serial) = Unit {0}
IsContentOf block red (a_sender_cancel reason) = Unit {0}
IsContentOf block red a_sender_cancel_ack = Unit {0}
IsContentOf block red (a_receiver_cancel reason) = Unit {0}
IsContentOf block red a_receiver_cancel_ack = Unit {0}

-- the checkpoint that an open sender waits on is a piece of the block
abbrev pub AwaitsPieceOf : List ℕ → ℕ → SendingPhase → Type 0
AwaitsPieceOf block red (sender_open checkpoint timer) = IsPieceOf block red checkpoint
AwaitsPieceOf block red (sender_cancelling reason timer) = Unit {0}

-- a sender of the block
pub record IsSenderOf (block : List ℕ) (red : ℕ) (s : Sending) : Type 0 where
  pub same_block : s.block ≡ block
  pub same_red : s.red ≡ red
  pub checkpoint : AwaitsPieceOf block red s.phase

-- a length, where it is known, is this
abbrev pub IfKnown : ℕ → Option ℕ → Type 0
IfKnown red None = Unit {0}
IfKnown red (Some end) = end ≡ red

-- the lowest offset of green data, where some came, is after the red part
abbrev pub IfGreen : ℕ → Option ℕ → Type 0
IfGreen red None = Unit {0}
IfGreen red (Some offset) = red ≤ offset

-- a receiver of the block
pub record IsReceiverOf (block : List ℕ) (red : ℕ) (r : Receiving) : Type 0 where
  pub cells : (k octet : ℕ) → cell r.cells k ≡ Some octet → IsAt block k octet
  pub reach : length r.cells ≤ red
  pub known : IfKnown red r.length
  pub green : IfGreen red r.green

-- the session keeps to the block
pub record BlockFacts (block : List ℕ) (red : ℕ) (v : View) : Type 0 where
  pub within : red ≤ length block
  pub said : AllByRecursion (IsContentOf block red) v.by_sender
  pub sender : IfKept (IsSenderOf block red) v.sender
  pub receiver : IfKept (IsReceiverOf block red) v.receiver
