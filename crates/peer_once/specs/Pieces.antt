-- The pieces of one session of the peer since it opened, and what is handed up of them.

use Rattle.std.specs.Prelude.{ℕ, ◌↔◌, Bool, ◌==◌, ◌&&◌, if◌then◌else◌, List, [], ◌∷◌, Result, Ok, Err}
use Rattle.ltp_segment.specs.declared.fault.SegmentCause.{SegmentCause}
use Rattle.ltp_segment.specs.Values.{SegmentValue}
use Rattle.ltp_session.specs.RedPart.{RedPiece, BecomesWhole}
use Rattle.ltp_session.specs.Table.{find}
use Rattle.ltp_laws.specs.View.{IsIn}
use Rattle.ltp_engine.specs.RedParts.{with_content}
use Rattle.peer_sessions.specs.Keys.{FaceKeys}
use Rattle.peer_sessions.specs.Sessions.{Sessions, passes, admission_in, is_of_peer}
use Rattle.peer_sessions.specs.Runs.{SessionsEvent, a_datagram, a_tick, a_block}
use Rattle.peer_once.specs.Runs.{Face, TimedEvent, sessions_in, sessions_at, is_kept, ups_with}

-- those of a session that is kept; one that isn't has none
abbrev pub while_kept : Bool → List RedPiece → List RedPiece
while_kept kept pieces = if kept then pieces else []

-- with a datagram: a piece of the session is one more, where it counts
abbrev pub pieces_heard : FaceKeys → ℕ → Sessions → Result SegmentValue (ℕ × SegmentCause) → List RedPiece → List RedPiece
pieces_heard k n s (Err refusal) pieces = pieces
pieces_heard k n s (Ok segment) pieces =
    if is_of_peer k segment.originator && (segment.session == n)
    then with_content (admission_in k s n) (find n (s.engine).receivers) segment.content pieces
    else pieces

-- with an event, of which a datagram finds the sessions once time has passed
abbrev pub pieces_with : FaceKeys → ℕ → ℕ → SessionsEvent → Sessions → List RedPiece → List RedPiece
pieces_with k n now (a_datagram read) s pieces =
    pieces_heard k n (passes k now s) read (while_kept (is_kept n (passes k now s)) pieces)
pieces_with k n now a_tick s pieces = pieces
pieces_with k n now (a_block block) s pieces = pieces

-- the pieces of a session that count since it opened, the newest first
unfoldable pub pieces_of : Face → ℕ → List TimedEvent → List RedPiece
pieces_of f n [] = []
pieces_of f n (event ∷ earlier) = pieces_with f.keys n event.0 event.1 (sessions_in f earlier) (pieces_of f n earlier)

-- those that a datagram finds
abbrev pub pieces_at : Face → ℕ → List TimedEvent → ℕ → List RedPiece
pieces_at f n earlier now = while_kept (is_kept n (sessions_at f earlier now)) (pieces_of f n earlier)

-- A red part is handed up with the datagram that makes it whole, and with no other: place by place the first
-- octet that came since its session opened.
abbrev pub HandsUpRedParts : Type 0
HandsUpRedParts =
    (f : Face) (n now : ℕ) (read : Result SegmentValue (ℕ × SegmentCause)) (earlier : List TimedEvent) (body : List ℕ)
    → IsIn (record { session = n; body = body }) (ups_with f.keys now (a_datagram read) (sessions_in f earlier))
    ↔ BecomesWhole (pieces_at f n earlier now) (pieces_of f n ((now, a_datagram read) ∷ earlier)) body
