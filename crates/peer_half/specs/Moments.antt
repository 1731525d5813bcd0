-- The moments of a half.

use Rattle.std.specs.Prelude.{ℕ, Option, None, Some}
use Rattle.contact_plan.specs.Windows.{next_from}
use Rattle.outbox.specs.declared.reading.Reading.{Reading}
use Rattle.outbox.specs.FaceTime.{moment_at}
use Rattle.outbox.specs.Schedule.{ScheduleValue, contact_at}
use Rattle.gate_face.specs.Faces.{FaceStanding}
use Rattle.peer_gateway.specs.declared.moments.FaceMoments.{FaceMoments}
use Rattle.peer_gateway.specs.Gate.{PeerMoments}
use Rattle.peer_gateway.specs.Views.{moments_of}

-- ---- at a reading of the clocks

-- Until when, by the wall clock, what goes at a face waits for its link: now, where that is open, or no contact
-- comes any more; else until the next contact begins.
abbrev pub leaves_by : (contact next : Option ℕ) → ℕ → ℕ
leaves_by (Some contact) next wall = wall
leaves_by None None wall = wall
leaves_by None (Some begins) wall = begins

abbrev pub leaves_at : ScheduleValue → ℕ → ℕ
leaves_at s wall = leaves_by (contact_at s wall) (next_from s.windows wall) wall

abbrev pub face_moments : Reading → FaceStanding → FaceMoments
face_moments now f = record {
  at = moment_at f.outbox f.time now;
  leaves = leaves_at (f.outbox).schedule now.wall;
}

-- of the half, at this reading
abbrev pub moments_at : Reading → FaceStanding × FaceStanding → PeerMoments
moments_at now faces = moments_of (record {
  wall = now.wall;
  old = face_moments now faces.0;
  new = face_moments now faces.1;
})

-- ---- before the first reading

-- at each face the time is the wall clock's
abbrev pub face_same : ℕ → FaceMoments
face_same wall = record { at = wall; leaves = wall }

abbrev pub same : ℕ → PeerMoments
same wall = moments_of (record { wall = wall; old = face_same wall; new = face_same wall })
