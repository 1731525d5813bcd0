-- What a receiver's cancel says of a session (RFC 5326, section 6.19).

use Rattle.std.specs.Prelude.{◌≡◌, ℕ, true, List}
use Rattle.ltp_segment.specs.Values.{a_receiver_cancel}
use Rattle.ltp_session.specs.Receiver.{Receiving, is_cancelling}
use Rattle.ltp_laws.specs.Kept.{IsClosedOr}
use Rattle.ltp_laws.specs.View.{IsIn, View}

-- a receiver that waits for the acknowledgement of its cancel
abbrev pub IsReceiverCancelling : Receiving → Type 0
IsReceiverCancelling r = is_cancelling r.phase ≡ true

-- a receiver that sent a cancel is cancelling, or its number is closed; it is never open again
pub record CancelFacts (block : List ℕ) (red : ℕ) (v : View) : Type 0 where
  pub cancels :
      (reason : ℕ) → IsIn (a_receiver_cancel reason) v.by_receiver
      → IsClosedOr IsReceiverCancelling v.receiver v.closed
