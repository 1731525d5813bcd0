-- What a side does about a segment: its session's step, or nothing where it isn't for that side.

use Rattle.std.specs.Prelude.{◌≡◌, ℕ, ◌+◌, ◌<◌, ◌^◌, List, length, Option, None, Some}
use Rattle.ltp_segment.specs.Legal.{IsReport}
use Rattle.ltp_segment.specs.Values.{ContentValue, a_piece, a_report, a_report_ack}
use Rattle.ltp_segment.specs.Values.{a_sender_cancel, a_sender_cancel_ack, a_receiver_cancel}
use Rattle.ltp_segment.specs.Values.{a_receiver_cancel_ack}
use Rattle.ltp_segment.specs.declared.session.Step.{Step}
use Rattle.ltp_segment.specs.Policy.{PolicyValue}
use Rattle.ltp_session.specs.Step.{StepValue}
use Rattle.ltp_session.specs.Sender.{Sending}
use Rattle.ltp_session.specs.Receiver.{Receiving}
use Rattle.ltp_session.specs.Views.{SessionValue}
use Rattle.ltp_engine.specs.Tables.{Does}
use Rattle.ltp_engine.specs.Inbound.{Takes}
use Rattle.ltp_engine.specs.declared.inbound.Inbound.{Inbound}

abbrev pub SenderDoes : ℕ → PolicyValue → ℕ → Option (StepValue Sending)
    → List (ℕ × SessionValue Sending) → List (ℕ × SessionValue Sending) → Option Step → Type 0
SenderDoes own policy n None old new None = new ≡ old
SenderDoes own policy n None old new (Some told) = ⊥
SenderDoes own policy n (Some step) old new None = ⊥
SenderDoes own policy n (Some step) old new (Some told) = Does own policy n step old new told

abbrev pub ReceiverDoes : ℕ → PolicyValue → ℕ → ℕ → Option (StepValue Receiving)
    → Inbound → Inbound → Option (Option ℕ × Step) → Type 0
ReceiverDoes peer policy sessions n None old new None = new ≡ old
ReceiverDoes peer policy sessions n None old new (Some told) = ⊥
ReceiverDoes peer policy sessions n (Some step) old new None = ⊥
ReceiverDoes peer policy sessions n (Some step) old new (Some told) =
    Takes peer policy sessions n step old new told

-- what a side can be told: a piece that stops at a number, a report that can be written, or
-- another content
abbrev pub IsFit : ContentValue → Type 0
IsFit (a_piece piece) = piece.offset + length piece.body < 2 ^ 64
IsFit (a_report report) = IsReport report
IsFit (a_report_ack serial) = Unit {0}
IsFit (a_sender_cancel reason) = Unit {0}
IsFit a_sender_cancel_ack = Unit {0}
IsFit (a_receiver_cancel reason) = Unit {0}
IsFit a_receiver_cancel_ack = Unit {0}
