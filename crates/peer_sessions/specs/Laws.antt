-- What holds of a face's sessions.

use Rattle.std.specs.Prelude.{◌≡◌, ℕ, ◌<◌, ◌≤◌, List, [], length, Result}
use Rattle.ltp_segment.specs.declared.fault.SegmentCause.{SegmentCause}
use Rattle.ltp_segment.specs.Values.{SegmentValue}
use Rattle.std.specs.Map.{keys_of}
use Rattle.ltp_engine.specs.Sessions.{cells_in, IsTouchOrder}
use Rattle.face_room.specs.Bounds.{half}
use Rattle.peer_sessions.specs.Keys.{FaceKeys}
use Rattle.peer_sessions.specs.Sessions.{Sessions, stale, hears, ticks}
use Rattle.peer_sessions.specs.Runs.{SessionsEvent, sessions_after}

-- Whatever the sessions are: after a datagram, and after a tick, none is left that nothing touched for as long
-- as a number is remembered.
pub record NoneIsStale : Type 0 where
  pub heard : (k : FaceKeys) (s : Sessions) (read : Result SegmentValue (ℕ × SegmentCause)) (now : ℕ) → 0 < k.remember_ms
      → stale k now (hears k s read now).sessions ≡ []
  pub ticked : (k : FaceKeys) (s : Sessions) (now : ℕ) → 0 < k.remember_ms → stale k now (ticks k s now).sessions ≡ []

-- What a face receives after any events: each session has its place in the order in which they were touched,
-- and no other has one; there are no more than it may keep; and all together have no more red octets than half
-- the memory.
pub record ReceivesWithin (k : FaceKeys) (s : Sessions) : Type 0 where
  pub order : IsTouchOrder (s.engine).touched (s.engine).receivers
  pub sessions : length (s.engine).receivers ≤ (k.bounds).sessions
  pub octets : cells_in (s.engine).receivers ≤ half k.bounds

abbrev pub StaysWithin : Type 0
StaysWithin = (k : FaceKeys) (start : ℕ) (marks : List ℕ) (events : List (ℕ × SessionsEvent)) → 1 ≤ (k.bounds).sessions
    → ReceivesWithin k (sessions_after k start marks events)

-- The moments are those of the receiving sessions, in the order in which they were touched.
abbrev pub MomentsAreTouched : Type 0
MomentsAreTouched = (k : FaceKeys) (start : ℕ) (marks : List ℕ) (events : List (ℕ × SessionsEvent)) → 1 ≤ (k.bounds).sessions
    → keys_of (sessions_after k start marks events).moments ≡ ((sessions_after k start marks events).engine).touched
