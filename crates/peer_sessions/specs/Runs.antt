-- What happens at a face, one event after the other.

use Rattle.std.specs.Prelude.{ℕ, List, [], ◌∷◌, Result}
use Rattle.ltp_segment.specs.declared.fault.SegmentCause.{SegmentCause}
use Rattle.ltp_segment.specs.Values.{SegmentValue}
use Rattle.peer_sessions.specs.Keys.{FaceKeys}
use Rattle.peer_sessions.specs.Sessions.{Sessions, starts_sessions, hears, ticks, block_begins, with_begun}

-- a datagram comes, time passes, or a block begins
pub data SessionsEvent : Type 0 where
  a_datagram : Result SegmentValue (ℕ × SegmentCause) → SessionsEvent
  a_tick : SessionsEvent
  a_block : List ℕ → SessionsEvent

abbrev pub sessions_then : FaceKeys → ℕ → SessionsEvent → Sessions → Sessions
sessions_then k now (a_datagram read) s = (hears k s read now).sessions
sessions_then k now a_tick s = (ticks k s now).sessions
sessions_then k now (a_block block) s = with_begun s (block_begins k s.engine block now)

-- the sessions after some events, the newest first, each after its moment, from a moment on
abbrev pub sessions_after : FaceKeys → ℕ → List ℕ → List (ℕ × SessionsEvent) → Sessions
sessions_after k start marks [] = starts_sessions k start marks
sessions_after k start marks (event ∷ earlier) = sessions_then k event.0 event.1 (sessions_after k start marks earlier)
