-- The serial numbers of a session's reports (RFC 5326, section 3.2.2).

use Rattle.std.specs.Prelude.{◌≡◌, ℕ, ◌<◌, false, List, Option, None, Some}
use Rattle.ltp_segment.specs.Values.{ContentValue, ReportValue, a_report}
use Rattle.ltp_session.specs.Receiver.{Pending, Receiving, ReceivingPhase, receiver_cancelling}
use Rattle.ltp_session.specs.Receiver.{receiver_open}
use Rattle.ltp_laws.specs.Kept.{IfKept}
use Rattle.ltp_laws.specs.View.{IsIn, View, said}

-- the report that an open receiver waits on, where it waits on one
abbrev pub pending_of : ReceivingPhase → Option Pending
pending_of (receiver_open pending) = pending
pending_of (receiver_cancelling reason timer) = None

-- the pending report was sent, and the next serial is above those of all reports that were
pub record HasReported (said : List ContentValue) (r : Receiving) : Type 0 where
  pub pending : (p : Pending) → pending_of r.phase ≡ Some p → IsIn (a_report p.report) said
  pub below : (x : ReportValue) → IsIn (a_report x) said → x.serial < r.serial

-- reports with one serial are the same
abbrev pub AreNumbered : List ContentValue → Type 0
AreNumbered said =
    (x y : ReportValue) → IsIn (a_report x) said → IsIn (a_report y) said
    → x.serial ≡ y.serial → x ≡ y

-- no report is among these
abbrev pub NoReports : List ContentValue → Type 0
NoReports said = (x : ReportValue) → IsIn (a_report x) said → ⊥

-- a receiver that isn't kept and whose number isn't closed sent no report; the serials of one that
-- is kept go on; and a serial names one report
pub record SerialFacts (block : List ℕ) (red : ℕ) (v : View) : Type 0 where
  pub unknown : v.receiver ≡ None → v.closed ≡ false → NoReports v.by_receiver
  pub kept : IfKept (HasReported v.by_receiver) v.receiver
  pub once : AreNumbered v.by_receiver
