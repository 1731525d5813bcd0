-- A face's own time, on which its timers run. It stands still while its link is closed, and while
-- its datagrams wait.

use Rattle.std.specs.Prelude.{ℕ, ◌+◌, ◌-◌, ◌^◌, min, List, [], ◌∷◌, Option, None, Some}
use Rattle.contact_plan.specs.declared.window.Window.{Window}
use Rattle.contact_plan.specs.Windows.{elapsed}
use Rattle.outbox.specs.declared.reading.Reading.{Reading}
use Rattle.outbox.specs.Outbox.{OutboxValue}

-- a face's moment at a reading of the clocks
pub record FaceMoment : Type 0 where
  pub moment : ℕ
  pub reading : Reading

-- the milliseconds of the monotonic clock between two readings; where the face has contacts, at
-- most the milliseconds of them that the wall clock passed, and none where that was set back
abbrev pub open_time : List Window → Reading → Reading → ℕ
open_time [] before now = now.monotonic - before.monotonic
open_time (window ∷ windows) before now =
    min (now.monotonic - before.monotonic)
    (elapsed (window ∷ windows) now.wall - elapsed (window ∷ windows) before.wall)

-- it goes on where no datagram waits
abbrev pub growth : List (List ℕ) → List Window → Reading → Reading → ℕ
growth [] windows before now = open_time windows before now
growth (datagram ∷ datagrams) windows before now = 0

-- the last moment that a clock shows
abbrev pub last_moment : ℕ
last_moment = 2 ^ 62 - 1

-- a moment that goes on by so much, but not past the last one
abbrev pub gone_on : ℕ → ℕ → ℕ
gone_on moment time = moment + min time (last_moment - moment)

-- at the first reading a face's moment is that of the wall clock; at each later one, which finds
-- the outbox as it was left after the reading before, it goes on
abbrev pub moment_at : OutboxValue → Option FaceMoment → Reading → ℕ
moment_at b None now = now.wall
moment_at b (Some face) now =
    gone_on face.moment (growth b.waiting (b.schedule).windows face.reading now)

abbrev pub face_at : OutboxValue → Option FaceMoment → Reading → FaceMoment
face_at b face now = record { moment = moment_at b face now; reading = now }
