-- How a session's sender completes its claims.

use Rattle.std.specs.Prelude.{◌≡◌, ℕ, true, false, List, slice_index_or, Some, is_some}
use Rattle.ltp_segment.specs.Values.{ContentValue, PieceValue, ReportValue, a_report}
use Rattle.ltp_session.specs.declared.timer.Timer.{Timer}
use Rattle.ltp_session.specs.Cells.{cell}
use Rattle.ltp_session.specs.Claims.{with_claims}
use Rattle.ltp_session.specs.Sender.{Sending, is_all_claimed, sender_open}
use Rattle.ltp_laws.specs.Claims.{IsWhole}
use Rattle.ltp_laws.specs.Kept.{IfKept}
use Rattle.ltp_laws.specs.View.{IsIn, View}

-- a report that claims the whole red part is among these
pub record WholeSent (red : ℕ) (said : List ContentValue) : Type 0 where
  pub report : ReportValue
  pub among : IsIn (a_report report) said
  pub whole : IsWhole red report

-- a report completes an open sender's claims only where a whole one was sent, and a kept receiver
-- has handed the red part up; and what a sender has as claimed came, where the receiver is kept
pub record CompletionFacts (block : List ℕ) (red : ℕ) (v : View) : Type 0 where
  pub ends :
      (s : Sending) (c : PieceValue) (timer : Timer) (x : ReportValue) → v.sender ≡ Some s
      → s.phase ≡ sender_open c timer → IsIn (a_report x) v.by_receiver
      → is_all_claimed (with_claims x.lower x.claims s.claimed) ≡ true
      → WholeSent red v.by_receiver
  pub handed :
      (s : Sending) (c : PieceValue) (timer : Timer) (x : ReportValue) → v.sender ≡ Some s
      → s.phase ≡ sender_open c timer → IsIn (a_report x) v.by_receiver
      → is_all_claimed (with_claims x.lower x.claims s.claimed) ≡ true
      → IfKept (λ r. r.handed_up ≡ true) v.receiver
  pub filled :
      (s : Sending) (k : ℕ) → v.sender ≡ Some s → slice_index_or s.claimed k false ≡ true
      → IfKept (λ r. is_some (cell r.cells k) ≡ true) v.receiver
