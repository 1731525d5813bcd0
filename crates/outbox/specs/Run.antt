-- A run of an outbox: readings of the clocks, datagrams that are put or refused, and sends, in any order.

use Rattle.std.specs.Prelude.{◌≡◌, ℕ, ◌≤◌, max, List, [], ◌∷◌, ◌++◌, length, map, Option, None}
use Rattle.std.specs.Prelude.{Some, if◌then◌else◌}
use Rattle.outbox.specs.declared.reading.Reading.{Reading}
use Rattle.outbox.specs.FaceTime.{FaceMoment, face_at}
use Rattle.outbox.specs.Outbox.{OutboxValue, after_putting, after_reading, after_refusing, after_sending, fits}
use Rattle.outbox.specs.Outbox.{next_of}
use Rattle.outbox.specs.Schedule.{ScheduleValue, contact_at}

pub data Call : Type 0 where
  reads : Reading → Call
  puts : List ℕ → Call
  refuses : Call
  sends : Call

abbrev pub after_call : OutboxValue → Call → OutboxValue
after_call b (reads now) = after_reading b now
after_call b (puts datagram) = after_putting b datagram
after_call b refuses = after_refusing b
after_call b sends = after_sending b

abbrev pub run : OutboxValue → List Call → OutboxValue
run b [] = b
run b (call ∷ calls) = run (after_call b call) calls

-- ---- what goes in, and what goes out

-- the datagrams that were put and not dropped, in order
abbrev pub kept_by : OutboxValue → Call → List (List ℕ)
kept_by b (reads now) = []
kept_by b (puts datagram) = if fits b datagram then datagram ∷ [] else []
kept_by b refuses = []
kept_by b sends = []

abbrev pub kept : OutboxValue → List Call → List (List ℕ)
kept b [] = []
kept b (call ∷ calls) = kept_by b call ++ kept (after_call b call) calls

-- a datagram that went out, sent or lost, and the last reading before that
pub record Tried : Type 0 where
  pub datagram : List ℕ
  pub reading : Option Reading

abbrev pub tries : Option (List ℕ) → Option Reading → List Tried
tries None reading = []
tries (Some datagram) reading = record { datagram = datagram; reading = reading } ∷ []

-- those that went out, in order
abbrev pub tried_by : OutboxValue → Call → List Tried
tried_by b (reads now) = []
tried_by b (puts datagram) = []
tried_by b refuses = []
tried_by b sends = tries (next_of b) b.reading

abbrev pub tried : OutboxValue → List Call → List Tried
tried b [] = []
tried b (call ∷ calls) = tried_by b call ++ tried (after_call b call) calls

abbrev pub datagrams_of : List Tried → List (List ℕ)
datagrams_of ts = map (λ t. t.datagram) ts

-- the octets of the longest one
abbrev pub longest : List (List ℕ) → ℕ
longest [] = 0
longest (datagram ∷ datagrams) = max (length datagram) (longest datagrams)

-- ---- the readings

-- all of them lie in this contact
abbrev pub StaysIn : ScheduleValue → ℕ → List Call → Type 0
StaysIn s contact [] = Unit {0}
StaysIn s contact (reads now ∷ calls) =
    (contact_at s now.wall ≡ Some contact) × StaysIn s contact calls
StaysIn s contact (puts datagram ∷ calls) = StaysIn s contact calls
StaysIn s contact (refuses ∷ calls) = StaysIn s contact calls
StaysIn s contact (sends ∷ calls) = StaysIn s contact calls

-- after this one, no reading of the monotonic clock is below the one before
abbrev pub Rises : ℕ → List Call → Type 0
Rises monotonic [] = Unit {0}
Rises monotonic (reads now ∷ calls) = (monotonic ≤ now.monotonic) × Rises now.monotonic calls
Rises monotonic (puts datagram ∷ calls) = Rises monotonic calls
Rises monotonic (refuses ∷ calls) = Rises monotonic calls
Rises monotonic (sends ∷ calls) = Rises monotonic calls

-- the last reading of the monotonic clock, or this one
abbrev pub last_monotonic : ℕ → List Call → ℕ
last_monotonic monotonic [] = monotonic
last_monotonic monotonic (reads now ∷ calls) = last_monotonic now.monotonic calls
last_monotonic monotonic (puts datagram ∷ calls) = last_monotonic monotonic calls
last_monotonic monotonic (refuses ∷ calls) = last_monotonic monotonic calls
last_monotonic monotonic (sends ∷ calls) = last_monotonic monotonic calls

-- ---- the face's time

-- a face's time after a run of its outbox: it is told each reading
abbrev pub time_by : OutboxValue → FaceMoment → Call → FaceMoment
time_by b face (reads now) = face_at b (Some face) now
time_by b face (puts datagram) = face
time_by b face refuses = face
time_by b face sends = face

abbrev pub time_over : OutboxValue → FaceMoment → List Call → FaceMoment
time_over b face [] = face
time_over b face (call ∷ calls) = time_over (after_call b call) (time_by b face call) calls
