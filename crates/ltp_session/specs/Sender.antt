-- One session of a sender (RFC 5326, section 8.1): each step as a function of the state before it,
-- of what came, and of the moment.
--
-- A piece is what a data segment carries: octets of a block, the offset of the first, and its
-- colour. A cancel is a cancel segment: CS from the sender of the block, CR from its receiver; CAS
-- and CAR acknowledge them. A note says what happened to whoever runs the engine, and isn't sent.
-- An own rule isn't in the RFC; it says where it departs from that. A step keeps a session in a new
-- state, ends it, or leaves it as it is (`stays`).
--
-- Not here: a cancel that the client asks for (section 4.2), and timers that wait while the link is
-- closed (6.5 and 6.6). A timer starts with the step that sends, and not once its segment leaves
-- (6.2 and 6.15).

use Rattle.std.specs.Prelude.{ℕ, zero, suc, ◌+◌, Bool, true, false, ◌==◌, ◌&&◌, nat_lt, List, [], ◌∷◌, ◌++◌, length, take, drop, replicate, slice_index_or, Option, None, Some, if◌then◌else◌}
use Rattle.std.specs.List.{list_all}
use Rattle.ltp_segment.specs.declared.segment.PieceKind.{PieceKind}
use Rattle.ltp_segment.specs.declared.segment.PieceKind.TheVariants as kinds
use Rattle.ltp_segment.specs.Values.{PieceValue, ReportValue, ContentValue, a_piece, a_report, a_report_ack, a_sender_cancel, a_sender_cancel_ack, a_receiver_cancel, a_receiver_cancel_ack}
use Rattle.ltp_segment.specs.Policy.{PolicyValue}
use Rattle.ltp_session.specs.declared.timer.Timer.{Timer}
use Rattle.ltp_session.specs.Timer.{first_timer, next_timer, is_due, may_repeat, first_serial, is_past_serials}
use Rattle.ltp_session.specs.Claims.{with_claims}
use Rattle.ltp_session.specs.Step.{Change, stays, keeps, ends, StepValue, sending, noting, note_sent, note_failed, note_cancelled, note_bad_bounds, sent_too_often, by_system}

-- An open session waits for a report on its current checkpoint. A cancelling one has sent a cancel
-- for this reason, and waits for its acknowledgement.
pub data SendingPhase : Type 0 where
  sender_open : PieceValue → Timer → SendingPhase
  sender_cancelling : ℕ → Timer → SendingPhase

-- the block, the length of its red part, which is at most the block's, and which octets of the red
-- part were claimed
pub record Sending : Type 0 where
  pub block : List ℕ
  pub red : ℕ
  pub claimed : List Bool
  pub phase : SendingPhase

abbrev pub sending_timer : SendingPhase → Timer
sending_timer (sender_open checkpoint timer) = timer
sending_timer (sender_cancelling reason timer) = timer

-- when its timer is due; one always runs
abbrev pub sender_deadline : Sending → Option ℕ
sender_deadline s = Some (sending_timer s.phase).deadline

-- ---- segments of a block before they are pieces: where each begins in the block, and its octets

-- These octets, of which the first has the place `at`, cut into segments of `size`: at most n of
-- them, and the last may be shorter.
unfoldable pub segments_from : ℕ → ℕ → ℕ → List ℕ → List (ℕ × List ℕ)
segments_from size zero at octets = []
segments_from size (suc n) at [] = []
segments_from size (suc n) at (octet ∷ octets) =
    (at, take size (octet ∷ octets)) ∷ segments_from size n (at + size) (drop size (octet ∷ octets))

-- all of the octets cut so
abbrev pub segments_of : ℕ → ℕ → List ℕ → List (ℕ × List ℕ)
segments_of size at octets = segments_from size (length octets) at octets

-- the segments of the red part, and those of the green part
abbrev pub red_segments : PolicyValue → List ℕ → ℕ → List (ℕ × List ℕ)
red_segments policy block red = segments_of policy.segment 0 (take red block)

abbrev pub green_segments : PolicyValue → List ℕ → ℕ → List (ℕ × List ℕ)
green_segments policy block red = segments_of policy.segment red (drop red block)

-- the last of some segments, where there is one
unfoldable pub last_segment : List (ℕ × List ℕ) → Option (ℕ × List ℕ)
last_segment [] = None
last_segment (segment ∷ []) = Some segment
last_segment (segment ∷ next ∷ segments) = last_segment (next ∷ segments)

-- ---- segments as pieces

-- a segment as a piece for client service 1
abbrev pub piece_at : PieceKind → ℕ → ℕ → ℕ × List ℕ → PieceValue
piece_at kind checkpoint report segment = record {
  kind = kind;
  service = 1;
  offset = segment.0;
  checkpoint = checkpoint;
  report = report;
  body = segment.1;
}

-- A checkpoint that stops where the red part ends says so (EORP). Where the block has no green part
-- it says that the block ends too (EOB).
abbrev pub checkpoint_kind : ℕ → ℕ → ℕ → PieceKind
checkpoint_kind size red stop =
    if stop == red then (if red == size then kinds.RedEndBlock else kinds.RedEnd)
    else kinds.RedCheckpoint

-- a segment as a checkpoint with its serial, and that of the report which it answers, or 0
abbrev pub checkpoint_at : ℕ → ℕ → ℕ → ℕ → ℕ × List ℕ → PieceValue
checkpoint_at size red serial report segment =
    piece_at (checkpoint_kind size red (segment.0 + length segment.1)) serial report segment

-- red segments, of which the last is a checkpoint
unfoldable pub red_pieces : (ℕ × List ℕ → PieceValue) → List (ℕ × List ℕ) → List ContentValue
red_pieces checkpoint [] = []
red_pieces checkpoint (segment ∷ []) = a_piece (checkpoint segment) ∷ []
red_pieces checkpoint (segment ∷ next ∷ segments) =
    a_piece (piece_at kinds.Red 0 0 segment) ∷ red_pieces checkpoint (next ∷ segments)

-- green segments, with the last of which the block ends
unfoldable pub green_pieces : List (ℕ × List ℕ) → List ContentValue
green_pieces [] = []
green_pieces (segment ∷ []) = a_piece (piece_at kinds.GreenEndBlock 0 0 segment) ∷ []
green_pieces (segment ∷ next ∷ segments) =
    a_piece (piece_at kinds.Green 0 0 segment) ∷ green_pieces (next ∷ segments)

-- ---- a block is sent (sections 4.1 and 6.2)

-- a session is kept, and its first checkpoint is this segment; without a red segment none is kept
abbrev pub opened :
    PolicyValue → List ℕ → ℕ → ℕ → (ℕ × List ℕ → PieceValue) → Option (ℕ × List ℕ)
    → Change Sending
opened policy block red now checkpoint None = stays
opened policy block red now checkpoint (Some segment) = keeps (record {
  block = block;
  red = red;
  claimed = replicate red false;
  phase = sender_open (checkpoint segment) (first_timer policy now);
})

-- All segments are sent in order. The last red one is the first checkpoint, and the only one, where
-- the RFC allows earlier ones too. Its serial is computed from the session's number, where the RFC
-- wants a random one (section 3.2.1; own rule). A block without a red part is sent and noted, and
-- no session is kept.
unfoldable pub begin : PolicyValue → ℕ → List ℕ → ℕ → ℕ → StepValue Sending
begin policy session block red now =
    let segments : List (ℕ × List ℕ) = red_segments policy block red in
    let checkpoint : ℕ × List ℕ → PieceValue =
    checkpoint_at (length block) red (first_serial session) 0 in
    record {
      next = opened policy block red now checkpoint (last_segment segments);
      out = red_pieces checkpoint segments ++ green_pieces (green_segments policy block red);
      up = None;
      green = None;
      note = if red == 0 then Some note_sent else None;
    }

-- ---- a report (sections 6.13 and 6.12)

-- the n octets from offset `at` on are claimed; an octet past the end of the red part isn't
unfoldable pub are_claimed : List Bool → ℕ → ℕ → Bool
are_claimed claimed at zero = true
are_claimed claimed at (suc n) = slice_index_or claimed at false && are_claimed claimed (at + 1) n

-- a segment is claimed where all its octets are
abbrev pub is_claimed : List Bool → ℕ × List ℕ → Bool
is_claimed claimed segment = are_claimed claimed segment.0 (length segment.1)

-- the segments that aren't wholly claimed
unfoldable pub unclaimed : List Bool → List (ℕ × List ℕ) → List (ℕ × List ℕ)
unclaimed claimed [] = []
unclaimed claimed (segment ∷ segments) =
    if is_claimed claimed segment then unclaimed claimed segments
    else segment ∷ unclaimed claimed segments

-- the whole red part is claimed
abbrev pub is_all_claimed : List Bool → Bool
is_all_claimed claimed = list_all (λ b. b) claimed

-- the session is cancelled: after the contents `before` its cancel is sent (section 6.19), its
-- timer runs (6.15), and the failure is noted
abbrev pub gives_up : PolicyValue → Sending → ℕ → ℕ → List ContentValue → StepValue Sending
gives_up policy s reason now before =
    noting (keeps (record s { phase = sender_cancelling reason (first_timer policy now) }))
    (before ++ a_sender_cancel reason ∷ []) (note_failed reason)

-- after the contents `before` these segments are sent, and the last of them is the new checkpoint;
-- without segments only `before` is sent, which doesn't happen while an octet isn't claimed
abbrev pub sends_again :
    PolicyValue → Sending → ℕ → List (ℕ × List ℕ) → (ℕ × List ℕ → PieceValue)
    → Option (ℕ × List ℕ) → List ContentValue → StepValue Sending
sends_again policy s now segments checkpoint None before = sending (keeps s) before
sends_again policy s now segments checkpoint (Some segment) before =
    sending
    (keeps (record s { phase = sender_open (checkpoint segment) (first_timer policy now) }))
    (before ++ red_pieces checkpoint segments)

-- Each red segment that isn't wholly claimed is sent again whole, also its claimed octets, and also
-- one outside the report's scope (own rule). The last is a checkpoint with the serial after
-- `serial`, which is the current checkpoint's. Where no serial is left, the session is cancelled
-- (SYS_CNCLD, sections 3.2.4 and 6.22); no other limit is set to the number of rounds (own rule).
abbrev pub next_round :
    PolicyValue → Sending → ℕ → ℕ → ℕ → List ContentValue → StepValue Sending
next_round policy s serial report now before =
    if is_past_serials (serial + 1) then gives_up policy s by_system now before
    else
    (let segments : List (ℕ × List ℕ) =
    unclaimed s.claimed (red_segments policy s.block s.red) in
    let checkpoint : ℕ × List ℕ → PieceValue =
    checkpoint_at (length s.block) s.red (serial + 1) report in
    sends_again policy s now segments checkpoint (last_segment segments) before)

-- The report's claims are added by now, and `acks` is sent in each case. Where all of the red part
-- is claimed, the block was sent, and the session is closed (section 6.12). Else a report that
-- names the current checkpoint begins another round. For any other report nothing is sent again,
-- where the RFC sends what a new report shows to be missing in its scope (section 6.13; own rule).
abbrev pub goes_on :
    PolicyValue → Sending → PieceValue → ReportValue → ℕ → List ContentValue
    → StepValue Sending
goes_on policy s checkpoint report now acks =
    if is_all_claimed s.claimed then noting ends acks note_sent
    else if report.checkpoint == checkpoint.checkpoint
    then next_round policy s checkpoint.checkpoint report.serial now acks
    else sending (keeps s) acks

abbrev pub with_report : Sending → ReportValue → Sending
with_report s report =
    record s { claimed = with_claims report.lower report.claims s.claimed }

-- a report is acknowledged; an open session takes its claims, and a cancelling one does nothing
-- else
abbrev pub takes_report :
    PolicyValue → Sending → SendingPhase → ReportValue → ℕ → List ContentValue
    → StepValue Sending
takes_report policy s (sender_open checkpoint timer) report now acks =
    goes_on policy (with_report s report) checkpoint report now acks
takes_report policy s (sender_cancelling reason timer) report now acks = sending stays acks

-- a report with an upper bound past the red part is noted, and not acknowledged, by a cancelling
-- session neither; the RFC acknowledges each (section 6.13; own rule)
unfoldable pub report_step : PolicyValue → Sending → ReportValue → ℕ → StepValue Sending
report_step policy s report now =
    if nat_lt s.red report.upper then noting stays [] note_bad_bounds
    else takes_report policy s s.phase report now (a_report_ack report.serial ∷ [])

-- ---- a timer is due (sections 6.7 and 6.16)

-- The checkpoint, or the cancel, is sent again. Where it was sent as often as it may be, an open
-- session is cancelled, and a cancelling one closed.
abbrev pub sender_due : PolicyValue → Sending → SendingPhase → ℕ → StepValue Sending
sender_due policy s (sender_open checkpoint timer) now =
    if may_repeat policy timer
    then
    sending
    (keeps (record s { phase = sender_open checkpoint (next_timer policy timer now) }))
    (a_piece checkpoint ∷ [])
    else gives_up policy s sent_too_often now []
sender_due policy s (sender_cancelling reason timer) now =
    if may_repeat policy timer
    then
    sending
    (keeps (record s { phase = sender_cancelling reason (next_timer policy timer now) }))
    (a_sender_cancel reason ∷ [])
    else sending ends []

-- a timer that isn't due does nothing
unfoldable pub sender_tick : PolicyValue → Sending → ℕ → StepValue Sending
sender_tick policy s now =
    if is_due (sending_timer s.phase) now then sender_due policy s s.phase now
    else sending stays []

-- ---- cancels (sections 6.17, 6.18 and 6.20)

-- the acknowledgement of a cancel closes a cancelling session, and does nothing to an open one
abbrev pub ends_cancelling : SendingPhase → StepValue Sending
ends_cancelling (sender_open checkpoint timer) = sending stays []
ends_cancelling (sender_cancelling reason timer) = sending ends []

-- ---- what comes, for a session that is kept or not

-- a report for a session that isn't kept is acknowledged, whatever its bounds
abbrev pub on_report : PolicyValue → Option Sending → ReportValue → ℕ → StepValue Sending
on_report policy None report now = sending stays (a_report_ack report.serial ∷ [])
on_report policy (Some s) report now = report_step policy s report now

-- the receiver's cancel is acknowledged, and closes the session where it is kept
abbrev pub on_receiver_cancel : Option Sending → ℕ → StepValue Sending
on_receiver_cancel None reason = sending stays (a_receiver_cancel_ack ∷ [])
on_receiver_cancel (Some s) reason =
    noting ends (a_receiver_cancel_ack ∷ []) (note_cancelled reason)

abbrev pub on_sender_cancel_ack : Option Sending → StepValue Sending
on_sender_cancel_ack None = sending stays []
on_sender_cancel_ack (Some s) = ends_cancelling s.phase

abbrev pub on_sender_tick : PolicyValue → Option Sending → ℕ → StepValue Sending
on_sender_tick policy None now = sending stays []
on_sender_tick policy (Some s) now = sender_tick policy s now

-- None: what comes is for a receiver's session. A step that changes nothing is still some step.
unfoldable pub sender_answers :
    PolicyValue → Option Sending → ContentValue → ℕ → Option (StepValue Sending)
sender_answers policy kept (a_piece piece) now = None
sender_answers policy kept (a_report report) now = Some (on_report policy kept report now)
sender_answers policy kept (a_report_ack serial) now = None
sender_answers policy kept (a_sender_cancel reason) now = None
sender_answers policy kept a_sender_cancel_ack now = Some (on_sender_cancel_ack kept)
sender_answers policy kept (a_receiver_cancel reason) now = Some (on_receiver_cancel kept reason)
sender_answers policy kept a_receiver_cancel_ack now = None
