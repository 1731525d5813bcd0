-- Each face's sessions are those of its own events.

use Rattle.std.specs.Prelude.{◌≡◌, ℕ, ◌↔◌, List, ◌∷◌, Result}
use Rattle.ltp_segment.specs.declared.fault.SegmentCause.{SegmentCause}
use Rattle.ltp_segment.specs.Values.{SegmentValue}
use Rattle.ltp_session.specs.RedPart.{RedPiece, BecomesWhole}
use Rattle.ltp_laws.specs.View.{IsIn}
use Rattle.gate_cases.specs.declared.face.Face.{Face}
use Rattle.gateway_core.specs.Gate.{if_same}
use Rattle.peer_gateway.specs.Gate.{PeerMoments}
use Rattle.peer_gateway.specs.Steps.{PeerEvent, a_datagram, a_kept_piece, a_tick}
use Rattle.peer_half.specs.Runs.{EventIn}
use Rattle.peer_sessions.specs.Runs as faces
use Rattle.peer_once.specs.Runs as once
use Rattle.peer_once.specs.Runs.{TimedEvent, sessions_in, ups_with}
use Rattle.peer_once.specs.Pieces.{pieces_of, pieces_at}
use Rattle.peer_session_laws.specs.Events.{Beginning, events_at, face_of, sessions_of, ups_at}

-- Whatever happens to a gateway: the sessions of each face are what its own events make of sessions at their
-- beginning.
abbrev pub AreOfTheirFaces : Type 0
AreOfTheirFaces = (b : Beginning) (at : Face) (events : List EventIn)
    → sessions_of b at events ≡ sessions_in (face_of b at) (events_at b at events)

-- the pieces of a session of a face that an event finds: a datagram at the face finds those of a session that is
-- still kept
abbrev pub pieces_found : once.Face → Face → ℕ → PeerEvent → ℕ → List TimedEvent → List RedPiece
pieces_found f at n (a_datagram face read) now earlier =
    if_same face at (pieces_at f n earlier now) (pieces_of f n earlier)
pieces_found f at n a_tick now earlier = pieces_of f n earlier
pieces_found f at n (a_kept_piece face octets came) now earlier = pieces_of f n earlier

-- What is passed on from a face with a datagram that came there is what its sessions hand up with it.
abbrev pub PassesOnWhatIsHandedUp : Type 0
PassesOnWhatIsHandedUp =
    (b : Beginning) (at : Face) (read : Result SegmentValue (ℕ × SegmentCause))
    → (m : PeerMoments) (octets : ℕ × ℕ) (earlier : List EventIn)
    → ups_at b at (a_datagram at read, (m, octets)) earlier
    ≡ ups_with (face_of b at).keys (m.at at) (faces.a_datagram read)
    (sessions_in (face_of b at) (events_at b at earlier))

-- With an event the red part of a session is passed on from a face if and only if it becomes whole there with it:
-- place by place the first octet that came since the session opened.
abbrev pub PassesWhole : Type 0
PassesWhole = (b : Beginning) (at : Face) (n : ℕ) (event : EventIn) (earlier : List EventIn) (body : List ℕ)
    → IsIn (record { session = n; body = body }) (ups_at b at event earlier)
    ↔ BecomesWhole (pieces_found (face_of b at) at n event.0 (event.1.0.at at) (events_at b at earlier))
    (pieces_of (face_of b at) n (events_at b at (event ∷ earlier))) body
