-- What a face sends in a run, and how its time goes.

use Rattle.std.specs.Prelude.{◌≡◌, ℕ, ◌+◌, ◌-◌, ◌*◌, ◌/◌, ◌≤◌, ◌^◌, min, Bool}
use Rattle.std.specs.Prelude.{List, [], ◌∷◌, ◌++◌, length, map, ◌⊎◌, None, Some, IsSomeAnd}
use Rattle.std.specs.List.{AllByRecursion}
use Rattle.ltp_segment.specs.Spelling.{segment_octets}
use Rattle.gate_cases.specs.declared.face.Face.{Face}
use Rattle.gate_cases.specs.declared.face.Face.TheVariants.{Old}
use Rattle.gate_cases.specs.Faces.{other_of}
use Rattle.gate_config.specs.declared.file.FaceConfig.{FaceConfig}
use Rattle.gateway_core.specs.Gate.{at_face}
use Rattle.outbox.specs.FaceTime.{FaceMoment}
use Rattle.outbox.specs.Laws.{IsHeldAt, IsOpenAt}
use Rattle.outbox.specs.Outbox.{octets_in}
use Rattle.outbox.specs.Run.{longest, reads}
use Rattle.outbox.specs.Schedule.{ScheduleValue, contact_at, rate_of}
use Rattle.gate_face.specs.Schedules.{schedule_in}
use Rattle.peer_gateway.specs.Keys.{PeerSetup}
use Rattle.peer_gateway.specs.Gate.{PeerGate, PeerMoments, PeerStep, starts_out}
use Rattle.peer_gateway.specs.Steps.{peer_gate_after, peer_step}
use Rattle.peer_gateway.specs.Answers.{Answered, answer_of}
use Rattle.peer_gateway.specs.Laws.{put_at}
use Rattle.peer_gateway.specs.Ties.{starts_effects}
use Rattle.peer_half.specs.Moments.{moments_at}
use Rattle.peer_half.specs.Standing.{Standing, face_of}
use Rattle.peer_half.specs.Half.{Came, half}
use Rattle.peer_half.specs.Run.{halves}
use Rattle.peer_half.specs.Runs.{EventIn, Run, acts_of, after_events, begins_at, events_in, events_of, first_gate}
use Rattle.peer_half.specs.Runs.{marked_before, setup_of, stands_at}
use Rattle.peer_half.specs.Laws.{IsFitted, datagrams_at, tried_at, waiting_at}

-- ---- what is put into a face's outbox

-- an event of the gate
abbrev pub step_with : PeerSetup → PeerGate → EventIn → PeerStep
step_with s g event = peer_step s event.0 event.1.0 event.1.1 g

-- what the gate sends at a face with it
abbrev pub sent_with : PeerSetup → Face → PeerGate → EventIn → List (List ℕ)
sent_with s at g event = datagrams_at at (answer_of (step_with s g event).effects).out

-- and with some events, the newest first, of a gate that was so before them
unfoldable pub sent_over : PeerSetup → Face → PeerGate → List EventIn → List (List ℕ)
sent_over s at g [] = []
sent_over s at g (event ∷ earlier) =
    sent_over s at g earlier ++ sent_with s at (peer_gate_after s g earlier) event

-- what of that is put there
abbrev pub put_with : PeerSetup → Face → PeerGate → EventIn → List (List ℕ)
put_with s at g event =
    put_at at (answer_of (step_with s g event).effects).puts (answer_of (step_with s g event).effects).out

-- and with some events, the newest first
unfoldable pub put_over : PeerSetup → Face → PeerGate → List EventIn → List (List ℕ)
put_over s at g [] = []
put_over s at g (event ∷ earlier) =
    put_over s at g earlier ++ put_with s at (peer_gate_after s g earlier) event

-- what a run's file says of a face
abbrev pub config_of : Run → Face → FaceConfig
config_of r at = at_face ((r.file).old, (r.file).new) at

-- before the first half: a cancel of each session that is marked then
abbrev pub cancels_at : Face → Run → List (List ℕ)
cancels_at at r = map segment_octets (starts_out (at_face (setup_of r).keys at) (at_face (marked_before r) at))

-- those of them that are put
abbrev pub starts_with : Run → Answered
starts_with r = answer_of (starts_effects (setup_of r) (marked_before r))

abbrev pub put_first : Face → Run → List (List ℕ)
put_first at r = put_at at (starts_with r).puts (starts_with r).out

-- all that is put into a face's outbox in a run
abbrev pub put_into : Face → Run → List (List ℕ)
put_into at r =
    put_first at r ++ put_over (setup_of r) at (first_gate r) (events_of r)

-- ---- what goes out

-- what went out at a face in a run, sent or lost, and after it what still waits, is what was put there, in order:
-- each goes out once
abbrev pub GoesOnceInOrder : Type 0
GoesOnceInOrder =
    (r : Run) (at : Face) → tried_at at (acts_of r) ++ waiting_at at (stands_at r) ≡ put_into at r

-- So no outbox drops what the gate puts there: it takes as many octets as the gate knows of, and no more wait there,
-- at the beginning of a run and after each half of it.
abbrev pub IsFittedInRuns : Type 0
IsFittedInRuns = (r : Run) (at : Face) → IsFitted at (begins_at r) × IsFitted at (stands_at r)

-- ---- what is dropped

-- all that is sent at a face in a run, the cancels first
abbrev pub sent_in : Face → Run → List (List ℕ)
sent_in at r = cancels_at at r ++ sent_over (setup_of r) at (first_gate r) (events_of r)

-- what was sent at a face and not put there is counted, up to the greatest number of 64 bits
abbrev pub CountsDropped : Type 0
CountsDropped =
    (r : Run) (at : Face)
    → ((face_of at (stands_at r)).outbox).dropped
    ≡ min (length (sent_in at r) - length (put_into at r)) (2 ^ 64 - 1)

-- ---- in a half

-- what happens to the gate in a half, the newest first
abbrev pub happens_in : Face → Came → Standing → List EventIn
happens_in face came s = after_events (events_in face came s) []

-- what it sends at a face then
abbrev pub sent_by : Face → Face → Came → Standing → List (List ℕ)
sent_by at face came s = sent_over s.setup at s.gate (happens_in face came s)

-- and what of that is put into the face's outbox
abbrev pub put_by : Face → Face → Came → Standing → List (List ℕ)
put_by at face came s = put_over s.setup at s.gate (happens_in face came s)

-- ---- without contacts and pace

-- after each of some halves nothing waits at a face: what waited before the half, and what the half's events put
-- there, goes out in it, in order
unfoldable pub AreAtOnce : Face → (board : Bool) → Face → List Came → Standing → Type 0
AreAtOnce at board face [] s = Unit {0}
AreAtOnce at board face (came ∷ more) s =
    (waiting_at at (half board face came s).standing ≡ [])
    × (tried_at at (half board face came s).acts ≡ waiting_at at s ++ put_by at face came s)
    × AreAtOnce at board (other_of face) more (half board face came s).standing

-- so it is in each half of a run, at a face of which the file has no contacts and no rate
abbrev pub GoesAtOnceInRuns : Type 0
GoesAtOnceInRuns =
    (r : Run) (at : Face) → (config_of r at).contacts ≡ [] → (config_of r at).rate ≡ None
    → AreAtOnce at r.board Old r.comes (begins_at r)

-- ---- contact

-- when a face's link is open, by the run's file
abbrev pub plan_of : Run → Face → ScheduleValue
plan_of r at = at_face (schedule_in (r.file).old, schedule_in (r.file).new) at

-- in each of some halves with which something goes out at a face, the link is open at its reading
unfoldable pub AreInContact :
    ScheduleValue → Face → (board : Bool) → Face → List Came → Standing → Type 0
AreInContact plan at board face [] s = Unit {0}
AreInContact plan at board face (came ∷ more) s =
    ((tried_at at (half board face came s).acts ≡ []) ⊎ IsOpenAt plan (came.reading).wall)
    × AreInContact plan at board (other_of face) more (half board face came s).standing

-- so it is in each half of a run
abbrev pub GoesInContactInRuns : Type 0
GoesInContactInRuns =
    (r : Run) (at : Face) → AreInContact (plan_of r at) at r.board Old r.comes (begins_at r)

-- ---- pace

-- all readings of some halves lie in this contact
abbrev pub LieIn : ScheduleValue → ℕ → List Came → Type 0
LieIn s contact [] = Unit {0}
LieIn s contact (came ∷ more) =
    (contact_at s (came.reading).wall ≡ Some contact) × LieIn s contact more

-- from this one on, no reading of the monotonic clock is below the one before
abbrev pub ClockRises : ℕ → List Came → Type 0
ClockRises monotonic [] = Unit {0}
ClockRises monotonic (came ∷ more) =
    (monotonic ≤ (came.reading).monotonic) × ClockRises (came.reading).monotonic more

-- the last reading of the monotonic clock, or this one
abbrev pub last_clock : ℕ → List Came → ℕ
last_clock monotonic [] = monotonic
last_clock monotonic (came ∷ more) = last_clock (came.reading).monotonic more

-- in halves whose readings lie in one contact with a rate, from a run's beginning or later, no more
-- octets go out at a face than the rate carries from the first reading to the last and 10
-- milliseconds more, but for those of the longest datagram
abbrev pub KeepsPaceInRuns : Type 0
KeepsPaceInRuns =
    (s : Standing) (at : Face) (contact rate : ℕ) (board : Bool) (face : Face) (came : Came)
    (more : List Came)
    → rate_of ((face_of at s).outbox).schedule (Some contact) ≡ Some rate
    → LieIn ((face_of at s).outbox).schedule contact (came ∷ more)
    → ClockRises (came.reading).monotonic more
    → octets_in (tried_at at (halves board face (came ∷ more) s).acts)
    ≤ rate * (last_clock (came.reading).monotonic more - (came.reading).monotonic + 10) / 1000
    + longest (tried_at at (halves board face (came ∷ more) s).acts)

-- ---- a face's time

-- the moments of a half are those of its reading
abbrev pub moments_in : Came → Standing → PeerMoments
moments_in came s = moments_at came.reading s.faces

-- a face's moment in a half is the one at which the events of the half come to its sessions
pub record IsOfHalf (board : Bool) (face : Face) (came : Came) (s : Standing) (at : Face) : Type 0 where
  pub time : (face_of at (half board face came s).standing).time
      ≡ Some (record { moment = (moments_in came s).at at; reading = came.reading })
  pub events : AllByRecursion (λ (event : EventIn). event.1.0 ≡ moments_in came s) (events_in face came s)

abbrev pub TimeIsOfHalf : Type 0
TimeIsOfHalf =
    (board : Bool) (face : Face) (came : Came) (s : Standing) (at : Face) → IsOfHalf board face came s at

-- from one half to the next it never falls, and grows by no more than the monotonic clock does, whatever the clocks
-- show
abbrev pub TimeRises : Type 0
TimeRises =
    (s : Standing) (at : Face) (before : FaceMoment) (board : Bool) (face : Face) (came : Came)
    → (face_of at s).time ≡ Some before
    → IsSomeAnd (face_of at (half board face came s).standing).time (λ now.
    (before.moment ≤ now.moment)
    × (now.moment ≤ before.moment + ((came.reading).monotonic - (before.reading).monotonic)))

-- it stays where datagrams waited at the end of the half before, or the link was closed since
abbrev pub TimeIsHeld : Type 0
TimeIsHeld =
    (s : Standing) (at : Face) (before : FaceMoment) (board : Bool) (face : Face) (came : Came)
    → (face_of at s).time ≡ Some before
    → IsHeldAt (face_of at s).outbox before (reads came.reading)
    → IsSomeAnd (face_of at (half board face came s).standing).time (λ now.
    now.moment ≡ before.moment)
