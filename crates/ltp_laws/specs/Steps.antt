-- What a receiver's step can be, in a few forms: all that facts of a session have to know of it.

use Rattle.std.specs.Prelude.{◌≡◌, ℕ, ◌+◌, true, false, List, [], ◌∷◌, None, Some, ◌⊎◌}
use Rattle.ltp_segment.specs.Kinds.{ends_red_part, is_checkpoint, is_red}
use Rattle.ltp_segment.specs.Values.{ContentValue, PieceValue, a_piece, a_report}
use Rattle.ltp_session.specs.declared.timer.Timer.{Timer}
use Rattle.ltp_session.specs.Cells.{filled, length_after, whole_part}
use Rattle.ltp_session.specs.Receiver.{Pending, Receiving, piece_stop, receiver_open, report_of}
use Rattle.ltp_session.specs.Receiver.{with_handed_up, with_red}
use Rattle.ltp_session.specs.Step.{StepValue, ends, keeps, stays}
use Rattle.ltp_laws.specs.Kept.{KeepsOrEnds}
use Rattle.ltp_laws.specs.Serials.{NoReports, pending_of}

-- the same report is pending, or none
abbrev pub DropsPending : Receiving → Receiving → Type 0
DropsPending r r' = (pending_of r'.phase ≡ pending_of r.phase) ⊎ (pending_of r'.phase ≡ None)

-- a receiver that has the same octets
pub record Turns (r r' : Receiving) : Type 0 where
  pub cells : r'.cells ≡ r.cells
  pub known : r'.length ≡ r.length
  pub handed : r'.handed_up ≡ r.handed_up
  pub serial : r'.serial ≡ r.serial
  pub pending : DropsPending r r'

-- a receiver that took a red piece, and made no report
pub record Fills (r : Receiving) (q : PieceValue) (r' : Receiving) : Type 0 where
  pub cells : r'.cells ≡ filled r.cells q.offset q.body
  pub known : r'.length ≡ length_after r.length (ends_red_part q.kind) (piece_stop q)
  pub handed : r'.handed_up ≡ (with_handed_up (with_red r q)).handed_up
  pub serial : r'.serial ≡ r.serial
  pub pending : DropsPending r r'

-- a receiver that took a checkpoint, and reports
pub record Reports (r : Receiving) (q : PieceValue) (r' : Receiving) : Type 0 where
  pub cells : r'.cells ≡ filled r.cells q.offset q.body
  pub known : r'.length ≡ length_after r.length (ends_red_part q.kind) (piece_stop q)
  pub handed : r'.handed_up ≡ (with_handed_up (with_red r q)).handed_up
  pub serial : r'.serial ≡ r.serial + 1
  pub timer : Timer
  pub pending :
      pending_of r'.phase
      ≡ Some (record { report = report_of (with_red r q) q; timer = timer })

-- what a content, or a tick, does to a receiver
pub data ReceiverStep (content : ContentValue) (r : Receiving) (t : StepValue Receiving)
    : Type 0 where
  idle : t.next ≡ stays → NoReports t.out → ReceiverStep content r t
  over : t.next ≡ ends → NoReports t.out → ReceiverStep content r t
  turns : (r' : Receiving) → t.next ≡ keeps r' → Turns r r' → NoReports t.out
      → ReceiverStep content r t
  again : (p : Pending) (timer : Timer) → pending_of r.phase ≡ Some p
      → t.next
      ≡ keeps (record r {
        phase = receiver_open (Some (record { report = p.report; timer = timer }));
      })
      → t.out ≡ a_report p.report ∷ [] → ReceiverStep content r t
  fills : (q : PieceValue) (r' : Receiving) → content ≡ a_piece q → is_red q.kind ≡ true
      → t.next ≡ keeps r' → Fills r q r' → NoReports t.out → ReceiverStep content r t
  reports_on : (q : PieceValue) (r' : Receiving) → content ≡ a_piece q → is_red q.kind ≡ true
      → is_checkpoint q.kind ≡ true → t.next ≡ keeps r' → Reports r q r'
      → t.out ≡ a_report (report_of (with_red r q) q) ∷ [] → ReceiverStep content r t

-- a step that hands a red part up: it took a piece, all has come now, and none was handed up
-- before
pub record HandsUp
    (content : ContentValue) (r : Receiving) (t : StepValue Receiving) (body : List ℕ)
    : Type 0 where
  pub piece : PieceValue
  pub is_piece : content ≡ a_piece piece
  pub red_kind : is_red piece.kind ≡ true
  pub whole :
      whole_part (filled r.cells piece.offset piece.body)
      (length_after r.length (ends_red_part piece.kind) (piece_stop piece))
      ≡ Some body
  pub before : r.handed_up ≡ false
  pub kept : KeepsOrEnds (λ r'. r'.handed_up ≡ true) t.next
