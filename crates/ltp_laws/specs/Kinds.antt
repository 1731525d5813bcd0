-- Which end says what (RFC 5326, section 3.1).

use Rattle.std.specs.Prelude.{ℕ, List}
use Rattle.std.specs.List.{AllByRecursion}
use Rattle.ltp_segment.specs.Values.{ContentValue, a_piece, a_receiver_cancel}
use Rattle.ltp_segment.specs.Values.{a_receiver_cancel_ack, a_report, a_report_ack}
use Rattle.ltp_segment.specs.Values.{a_sender_cancel, a_sender_cancel_ack}
use Rattle.ltp_laws.specs.View.{View}

-- contents of the end that sends the block
abbrev pub IsSenders : ContentValue → Type 0
IsSenders (a_piece piece) = Unit {0}
IsSenders (a_report report) = ⊥
IsSenders (a_report_ack serial) = Unit {0}
IsSenders (a_sender_cancel reason) = Unit {0}
IsSenders a_sender_cancel_ack = ⊥
IsSenders (a_receiver_cancel reason) = ⊥
IsSenders a_receiver_cancel_ack = Unit {0}

-- contents of the other end
abbrev pub IsReceivers : ContentValue → Type 0
IsReceivers (a_piece piece) = ⊥
IsReceivers (a_report report) = Unit {0}
IsReceivers (a_report_ack serial) = ⊥
IsReceivers (a_sender_cancel reason) = ⊥
IsReceivers a_sender_cancel_ack = Unit {0}
IsReceivers (a_receiver_cancel reason) = Unit {0}
IsReceivers a_receiver_cancel_ack = ⊥

-- each end of the session says what is its own
pub record KindFacts (block : List ℕ) (red : ℕ) (v : View) : Type 0 where
  pub by_sender : AllByRecursion IsSenders v.by_sender
  pub by_receiver : AllByRecursion IsReceivers v.by_receiver
