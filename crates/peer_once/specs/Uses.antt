-- A number that a peer uses again, each time for one block.

use Rattle.std.specs.Prelude.{◌≡◌, ℕ, ◌+◌, ◌^◌, ◌<◌, ◌≤◌, true, List, ◌∷◌, ◌++◌, length, Result, Ok, Err, ◌⊎◌}
use Rattle.std.specs.List.{AllByRecursion}
use Rattle.ltp_segment.specs.declared.fault.SegmentCause.{SegmentCause}
use Rattle.ltp_segment.specs.Kinds.{is_red}
use Rattle.ltp_segment.specs.Values.{ContentValue, SegmentValue, a_piece, a_report, a_report_ack, a_sender_cancel, a_sender_cancel_ack, a_receiver_cancel, a_receiver_cancel_ack}
use Rattle.ltp_session.specs.RedPart.{RedPiece, red_stop, IsOfBlock}
use Rattle.ltp_receiver.specs.RedPart.{red_piece}
use Rattle.ltp_laws.specs.View.{IsIn}
use Rattle.peer_sessions.specs.Runs.{SessionsEvent, a_datagram, a_tick, a_block}
use Rattle.peer_once.specs.Runs.{Face, TimedEvent, sessions_in, AreInOrder, EachOf, ForgetsNothing, brings, hands_up, ups_with}

-- A use of a number: the red part that is sent with it; and from when on, and until when at the latest, its
-- segments come. That is as long after the last of them was sent as datagrams are under way.
pub record Use : Type 0 where
  pub red : List ℕ
  pub from : ℕ
  pub to : ℕ

-- a piece of the red part; if the red part ends with it, then where it ends
pub record IsPieceOf (red : List ℕ) (piece : RedPiece) : Type 0 where
  pub octets : IsOfBlock red piece
  pub end : piece.ends ≡ true → red_stop piece ≡ length red

-- what comes in a segment, if it is a red piece, is one of the red part
abbrev pub IsContentOf : List ℕ → ContentValue → Type 0
IsContentOf red (a_piece piece) = is_red piece.kind ≡ true → IsPieceOf red (red_piece piece)
IsContentOf red (a_report report) = Unit {0}
IsContentOf red (a_report_ack serial) = Unit {0}
IsContentOf red (a_sender_cancel reason) = Unit {0}
IsContentOf red a_sender_cancel_ack = Unit {0}
IsContentOf red (a_receiver_cancel reason) = Unit {0}
IsContentOf red a_receiver_cancel_ack = Unit {0}

-- a segment that comes with an event has such a content
abbrev pub Carries : List ℕ → SessionsEvent → Type 0
Carries red (a_datagram (Ok segment)) = IsContentOf red segment.content
Carries red (a_datagram (Err refusal)) = Unit {0}
Carries red a_tick = Unit {0}
Carries red (a_block block) = Unit {0}

-- a segment of the number comes before the use, by more than the time for which a number is remembered; or it
-- is one of the use
abbrev pub IsInUse : Face → ℕ → Use → TimedEvent → Type 0
IsInUse f n u event = brings f.keys n event.1 ≡ true
    → (event.0 + f.keys.remember_ms < u.from) ⊎ ((u.from ≤ event.0) × Carries u.red event.1)

-- Where a use is shorter than the time for which a number is remembered, and no runs are forgotten before
-- their time, its red part is handed up once at most.
abbrev pub UsedOnce : Type 0
UsedOnce = (f : Face) (n : ℕ) (u : Use) (second first : TimedEvent) (between earlier : List TimedEvent)
    → n < 2 ^ 64 → AreInOrder (second ∷ (between ++ (first ∷ earlier))) → EachOf (ForgetsNothing f) between (first ∷ earlier)
    → u.to < u.from + f.keys.remember_ms → u.from ≤ first.0 → second.0 ≤ u.to
    → hands_up f n first earlier ≡ true → hands_up f n second (between ++ (first ∷ earlier)) ≡ true → ⊥

-- Where a use begins more than that time after the one before it, what is handed up in it is what was sent in
-- it.
abbrev pub HandedUpAsSent : Type 0
HandedUpAsSent = (f : Face) (n now : ℕ) (u : Use) (read : Result SegmentValue (ℕ × SegmentCause)) (earlier : List TimedEvent) (body : List ℕ)
    → 1 ≤ (f.keys.bounds).sessions → AreInOrder ((now, a_datagram read) ∷ earlier) → AllByRecursion (IsInUse f n u) ((now, a_datagram read) ∷ earlier)
    → u.from ≤ now → IsIn (record { session = n; body = body }) (ups_with f.keys now (a_datagram read) (sessions_in f earlier)) → body ≡ u.red
