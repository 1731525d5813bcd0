-- How far reports reach, and what comes after a whole one.

use Rattle.std.specs.Prelude.{◌≡◌, ℕ, ◌<◌, true, List, Some, ◌⊎◌}
use Rattle.ltp_segment.specs.Values.{ReportValue, a_report}
use Rattle.ltp_session.specs.Receiver.{Pending, Receiving, is_cancelling}
use Rattle.ltp_laws.specs.Claims.{ClaimsPlace, IsWhole}
use Rattle.ltp_laws.specs.Kept.{IsClosedOr}
use Rattle.ltp_laws.specs.Serials.{pending_of}
use Rattle.ltp_laws.specs.View.{IsIn, View}

-- a place below its upper bound that a report doesn't claim
pub record LeavesOut (x : ReportValue) : Type 0 where
  pub place : ℕ
  pub below : place < x.upper
  pub unclaimed : ClaimsPlace x place → ⊥

-- below its upper bound a report claims what those with smaller serials claim; and it reaches the
-- end of the red part, or leaves a place out
pub record ReachFacts (block : List ℕ) (red : ℕ) (v : View) : Type 0 where
  pub grows :
      (x y : ReportValue) → IsIn (a_report x) v.by_receiver → IsIn (a_report y) v.by_receiver
      → x.serial < y.serial → (k : ℕ) → ClaimsPlace x k → k < y.upper → ClaimsPlace y k
  pub reach :
      (x : ReportValue) → IsIn (a_report x) v.by_receiver → (x.upper ≡ red) ⊎ LeavesOut x

-- a receiver that is cancelling, or waits for the acknowledgement of a whole report
abbrev pub IsDone : ℕ → Receiving → Type 0
IsDone red r =
    (is_cancelling r.phase ≡ true)
    ⊎ ((p : Pending) × (pending_of r.phase ≡ Some p) × IsWhole red p.report)

-- once a whole report was sent, the receiver is done or its number is closed
pub record WholeFacts (block : List ℕ) (red : ℕ) (v : View) : Type 0 where
  pub whole :
      (x : ReportValue) → IsIn (a_report x) v.by_receiver → IsWhole red x
      → IsClosedOr (IsDone red) v.receiver v.closed
