-- An engine of the code as a value.

use Rattle.std.specs.Prelude.{ℕ, Bool, List, []}
use Rattle.ltp_session.specs.Sender.{Sending}
use Rattle.ltp_session.specs.Receiver.{Receiving}
use Rattle.ltp_session.specs.Engine.{Party}
use Rattle.ltp_engine.specs.Closed.{ClosedValue, none_closed}

-- the receiving sessions, by their numbers; these from the longest untouched to the last touched;
-- and the closed ones
pub record InboundValue : Type 0 where
  pub receivers : List (ℕ × Receiving)
  pub touched : List ℕ
  pub closed : ClosedValue

abbrev pub nothing_received : InboundValue
nothing_received = record { receivers = []; touched = []; closed = none_closed }

-- whether memory ran out in a call, after which the value may only be dropped; what never changes;
-- the number of the next session; the sending sessions, by their numbers; and the receiving side
pub record EngineValue : Type 0 where
  pub spent : Bool
  pub party : Party
  pub next : ℕ
  pub senders : List (ℕ × Sending)
  pub inbound : InboundValue
