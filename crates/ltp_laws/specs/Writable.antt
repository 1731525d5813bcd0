-- That what is sent can be written: all its numbers fit (`IsSegment`).

use Rattle.std.specs.Prelude.{◌≡◌, ℕ, ◌<◌, ◌≤◌, ◌^◌, true, length, None, Some}
use Rattle.std.specs.List.{AllByRecursion}
use Rattle.ltp_segment.specs.Legal.{IsPiece}
use Rattle.ltp_segment.specs.Values.{ContentValue, PieceValue, a_piece, a_receiver_cancel}
use Rattle.ltp_segment.specs.Values.{a_receiver_cancel_ack, a_report, a_report_ack}
use Rattle.ltp_segment.specs.Values.{a_sender_cancel, a_sender_cancel_ack}
use Rattle.ltp_session.specs.Engine.{Party}
use Rattle.ltp_session.specs.Receiver.{Receiving, ReceivingPhase, receiver_cancelling}
use Rattle.ltp_session.specs.Receiver.{receiver_open}
use Rattle.ltp_session.specs.Sender.{Sending, SendingPhase, sender_cancelling, sender_open}
use Rattle.ltp_laws.specs.Kept.{IfKept}
use Rattle.ltp_laws.specs.View.{View}

-- the numbers of a party are below 2^64, and its first session's isn't above 2^32
pub record HasSmallNumbers (p : Party) : Type 0 where
  pub own : p.own < 2 ^ 64
  pub first : p.first ≤ 2 ^ 32
  pub most : p.most < 2 ^ 64

-- ---- what every run keeps of a session's numbers

-- a piece that can be written, and has an octet
pub record IsSmallPiece (q : PieceValue) : Type 0 where
  pub legal : IsPiece q
  pub some : 0 < length q.body

abbrev pub IsSmall : ContentValue → Type 0
IsSmall (a_piece q) = IsSmallPiece q
IsSmall (a_report x) = (0 < x.serial) × (x.serial < 2 ^ 64)
IsSmall (a_report_ack serial) = serial < 2 ^ 64
IsSmall (a_sender_cancel reason) = reason < 256
IsSmall a_sender_cancel_ack = Unit {0}
IsSmall (a_receiver_cancel reason) = reason < 256
IsSmall a_receiver_cancel_ack = Unit {0}

abbrev pub IsSmallSending : SendingPhase → Type 0
IsSmallSending (sender_open c timer) =
    IsSmallPiece c × (0 < c.checkpoint) × (c.checkpoint < 2 ^ 32)
IsSmallSending (sender_cancelling reason timer) = reason < 256

pub record IsSmallSender (s : Sending) : Type 0 where
  pub block : length s.block < 2 ^ 64
  pub phase : IsSmallSending s.phase

abbrev pub IsSmallReceiving : ReceivingPhase → Type 0
IsSmallReceiving (receiver_open None) = Unit {0}
IsSmallReceiving (receiver_open (Some p)) = IsSmall (a_report p.report)
IsSmallReceiving (receiver_cancelling reason timer) = reason < 256

pub record IsSmallReceiver (r : Receiving) : Type 0 where
  pub named : 0 < r.serial
  pub serial : r.serial ≤ 2 ^ 32
  pub phase : IsSmallReceiving r.phase

-- the numbers of session n
pub record AreSmall (n : ℕ) (v : View) : Type 0 where
  pub session : v.used ≡ true → n < 2 ^ 32
  pub by_sender : AllByRecursion IsSmall v.by_sender
  pub by_receiver : AllByRecursion IsSmall v.by_receiver
  pub sender : IfKept IsSmallSender v.sender
  pub receiver : IfKept IsSmallReceiver v.receiver
