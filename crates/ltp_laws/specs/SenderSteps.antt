-- What a sender's step can be, in a few forms.

use Rattle.std.specs.Prelude.{◌≡◌, ℕ, ◌+◌, false, List, ◌∷◌, length, take, Some, ◌⊎◌}
use Rattle.ltp_segment.specs.Values.{ContentValue, PieceValue, ReportValue, a_piece, a_report}
use Rattle.ltp_segment.specs.Values.{a_report_ack}
use Rattle.ltp_session.specs.declared.timer.Timer.{Timer}
use Rattle.ltp_session.specs.Claims.{with_claims}
use Rattle.ltp_session.specs.Sender.{Sending, checkpoint_at, is_all_claimed, last_segment}
use Rattle.ltp_session.specs.Sender.{red_pieces, segments_of, sender_open, unclaimed as parts_left}
use Rattle.ltp_session.specs.Step.{StepValue, ends, keeps, stays}
use Rattle.ltp_laws.specs.View.{IsIn, said}

-- no piece is among these
abbrev pub NoPieces : List ContentValue → Type 0
NoPieces said = (q : PieceValue) → IsIn (a_piece q) said → ⊥

-- what came is this report
pub record IsTold (content : ContentValue) (x : ReportValue) : Type 0 where
  pub is : content ≡ a_report x

-- the claims of the report that came are added
pub record Adds (content : ContentValue) (s s' : Sending) : Type 0 where
  pub report : ReportValue
  pub told : IsTold content report
  pub claimed : s'.claimed ≡ with_claims report.lower report.claims s.claimed

-- a sender that waits on as before, or not at all
pub record Continues (content : ContentValue) (s s' : Sending) (out : List ContentValue)
    : Type 0 where
  pub pieces :
      (q : PieceValue) → IsIn (a_piece q) out → (timer : Timer) × (s.phase ≡ sender_open q timer)
  pub waits :
      (c : PieceValue) (timer : Timer) → s'.phase ≡ sender_open c timer
      → (before : Timer) × (s.phase ≡ sender_open c before)
  pub unclaimed :
      (c : PieceValue) (timer : Timer) → s'.phase ≡ sender_open c timer
      → (is_all_claimed s'.claimed ≡ false) ⊎ (s'.claimed ≡ s.claimed)
  pub claimed : (s'.claimed ≡ s.claimed) ⊎ Adds content s s'

-- a sender that sends the segments that aren't wholly claimed once more
pub record Rounds (content : ContentValue) (s s' : Sending) (out : List ContentValue)
    : Type 0 where
  pub adds : Adds content s s'
  pub c : PieceValue
  pub timer : Timer
  pub waited : s.phase ≡ sender_open c timer
  pub names : (adds.report).checkpoint ≡ c.checkpoint
  pub unclaimed : is_all_claimed s'.claimed ≡ false
  pub z : ℕ
  pub parts : List (ℕ × List ℕ)
  pub parts_are : parts ≡ parts_left s'.claimed (segments_of z 0 (take s.red s.block))
  pub part : ℕ × List ℕ
  pub last : last_segment parts ≡ Some part
  pub timer' : Timer
  pub waits :
      s'.phase
      ≡ sender_open
      (checkpoint_at (length s.block) s.red (c.checkpoint + 1) (adds.report).serial part)
      timer'
  pub sends :
      out
      ≡ a_report_ack (adds.report).serial
      ∷ red_pieces (checkpoint_at (length s.block) s.red (c.checkpoint + 1)
      (adds.report).serial) parts

-- what a content, or a tick, does to a sender
pub data SenderStep (content : ContentValue) (s : Sending) (t : StepValue Sending) : Type 0 where
  rests : t.next ≡ stays → NoPieces t.out → SenderStep content s t
  leaves : t.next ≡ ends → NoPieces t.out → SenderStep content s t
  continues : (s' : Sending) → t.next ≡ keeps s' → Continues content s s' t.out
      → SenderStep content s t
  rounds : (s' : Sending) → t.next ≡ keeps s' → Rounds content s s' t.out → SenderStep content s t
