-- What an engine tells of a session, by its number.

use Rattle.std.specs.Prelude.{◌≡◌, ℕ, Bool, List, is_some}
use Rattle.std.specs.List.{count_by, sum_by}
use Rattle.ltp_session.specs.Sender.{Sending}
use Rattle.ltp_session.specs.Receiver.{Receiving}
use Rattle.ltp_session.specs.Table.{find}
use Rattle.ltp_session.specs.Engine.{is_closed}
use Rattle.ltp_sender.specs.Sender.{is_kept_open}
use Rattle.ltp_receiver.specs.Receiver.{is_kept_handed_up}
use Rattle.ltp_engine.specs.Shows.{AreDistinct}

-- of the sending sessions the one with this number is kept, and isn't cancelling
abbrev pub is_open : ℕ → List (ℕ × Sending) → Bool
is_open n senders = is_kept_open (find n senders)

-- of the receiving sessions the one with this number is kept, and its red part was handed up
abbrev pub is_handed_up : ℕ → List (ℕ × Receiving) → Bool
is_handed_up n receivers = is_kept_handed_up (find n receivers)

-- of the receiving sessions the one with this number is kept
abbrev pub is_receiving : ℕ → List (ℕ × Receiving) → Bool
is_receiving n receivers = is_some (find n receivers)

-- each session that is kept has one place in the order of touch, and no other has one
pub record IsTouchOrder (touched : List ℕ) (receivers : List (ℕ × Receiving)) : Type 0 where
  pub once : AreDistinct touched
  pub kept : (n : ℕ) → is_closed n touched ≡ is_receiving n receivers

-- how many red octets are kept of all receiving sessions
abbrev pub cells_in : List (ℕ × Receiving) → ℕ
cells_in receivers =
    sum_by (λ (entry : ℕ × Receiving). count_by is_some entry.1.cells) receivers
