-- What acknowledgements of reports say of a session (RFC 5326, sections 6.13 and 6.14).

use Rattle.std.specs.Prelude.{◌≡◌, ℕ, true, false, List, length, slice_index_or, Some, ◌⊎◌}
use Rattle.ltp_segment.specs.Values.{ReportValue, a_report, a_report_ack, a_sender_cancel}
use Rattle.ltp_session.specs.Receiver.{Receiving, acknowledged}
use Rattle.ltp_session.specs.Sender.{Sending, SendingPhase, sender_cancelling, sender_open}
use Rattle.ltp_session.specs.Step.{ends}
use Rattle.ltp_laws.specs.Claims.{ClaimsPlace, IsWhole}
use Rattle.ltp_laws.specs.Kept.{IfKept}
use Rattle.ltp_laws.specs.View.{IsIn, View}

-- a sender that waits for the acknowledgement of its cancel
abbrev pub IsSenderCancelling : SendingPhase → Type 0
IsSenderCancelling (sender_open checkpoint timer) = ⊥
IsSenderCancelling (sender_cancelling reason timer) = Unit {0}

-- a sender has every place that a report claims as claimed
abbrev pub HasClaims : Sending → ReportValue → Type 0
HasClaims s x = (k : ℕ) → ClaimsPlace x k → slice_index_or s.claimed k false ≡ true

-- a report with this serial was sent, and its claims are known to a sender that is still open
pub record IsAnswered (v : View) (serial : ℕ) : Type 0 where
  pub report : ReportValue
  pub among : IsIn (a_report report) v.by_receiver
  pub named : report.serial ≡ serial
  pub taken : IfKept (λ s. IsSenderCancelling s.phase ⊎ HasClaims s report) v.sender

-- a sender has a truth value for each place of the red part; what is acknowledged was reported, and
-- taken; and a sender that sent a cancel isn't open
pub record AckFacts (block : List ℕ) (red : ℕ) (v : View) : Type 0 where
  pub size : IfKept (λ s. length s.claimed ≡ red) v.sender
  pub acks : (serial : ℕ) → IsIn (a_report_ack serial) v.by_sender → IsAnswered v serial
  pub cancels :
      (reason : ℕ) → IsIn (a_sender_cancel reason) v.by_sender
      → IfKept (λ s. IsSenderCancelling s.phase) v.sender

-- a report with this serial was sent that claims the whole red part, and the sender isn't open
pub record IsClosedWhole (red : ℕ) (v : View) (serial : ℕ) : Type 0 where
  pub report : ReportValue
  pub among : IsIn (a_report report) v.by_receiver
  pub named : report.serial ≡ serial
  pub whole : IsWhole red report
  pub over : IfKept (λ s. IsSenderCancelling s.phase) v.sender

-- whatever acknowledgement was sent, it ends a receiver's session only where the whole red part is
-- claimed and the sender isn't open
pub record CloseFacts (block : List ℕ) (red : ℕ) (v : View) : Type 0 where
  pub closes :
      (r : Receiving) (serial : ℕ) → v.receiver ≡ Some r
      → IsIn (a_report_ack serial) v.by_sender → (acknowledged r serial).next ≡ ends
      → IsClosedWhole red v serial
