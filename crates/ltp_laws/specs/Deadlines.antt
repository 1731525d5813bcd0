-- Deadlines are after the clock.

use Rattle.std.specs.Prelude.{ℕ, ◌<◌, ◌≤◌, None, Some}
use Rattle.ltp_segment.specs.Policy.{PolicyValue}
use Rattle.ltp_session.specs.Receiver.{Receiving, ReceivingPhase, receiver_cancelling}
use Rattle.ltp_session.specs.Receiver.{receiver_open}
use Rattle.ltp_session.specs.Sender.{Sending, sending_timer}
use Rattle.ltp_laws.specs.Kept.{IfKept}
use Rattle.ltp_laws.specs.View.{View}

-- a policy that waits at all
abbrev pub Waits : PolicyValue → Type 0
Waits policy = (1 ≤ policy.timeout) × (1 ≤ policy.cap)

abbrev pub SenderAhead : ℕ → Sending → Type 0
SenderAhead now s = now < (sending_timer s.phase).deadline

abbrev pub PhaseAhead : ℕ → ReceivingPhase → Type 0
PhaseAhead now (receiver_open None) = Unit {0}
PhaseAhead now (receiver_open (Some p)) = now < (p.timer).deadline
PhaseAhead now (receiver_cancelling reason timer) = now < timer.deadline

abbrev pub ReceiverAhead : ℕ → Receiving → Type 0
ReceiverAhead now r = PhaseAhead now r.phase

-- the sender's deadline is after the moment a, and the receiver's after the moment b
pub record AreAhead (a b : ℕ) (v : View) : Type 0 where
  pub sender : IfKept (SenderAhead a) v.sender
  pub receiver : IfKept (ReceiverAhead b) v.receiver
