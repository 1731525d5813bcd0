-- What a face sends, and how its time goes, over every run of its outbox.

use Rattle.std.specs.Prelude.{◌≡◌, ◌≢◌, ℕ, ◌+◌, ◌-◌, ◌*◌, ◌/◌, ◌<◌, ◌≤◌, ◌⊎◌, true, false, List, []}
use Rattle.std.specs.Prelude.{◌∷◌, ◌++◌, Some, IsSomeAnd}
use Rattle.std.specs.List.{AllByRecursion}
use Rattle.contact_plan.specs.Windows.{is_open}
use Rattle.outbox.specs.declared.reading.Reading.{Reading}
use Rattle.outbox.specs.FaceTime.{FaceMoment}
use Rattle.outbox.specs.Outbox.{OutboxValue, after_reading, octets_in}
use Rattle.outbox.specs.Run.{Call, Rises, StaysIn, after_call, datagrams_of, kept}
use Rattle.outbox.specs.Run.{last_monotonic, longest, puts, reads, refuses, run, sends, time_by}
use Rattle.outbox.specs.Run.{time_over, tried}
use Rattle.outbox.specs.Schedule.{ScheduleValue, contact_at, rate_of}

-- what went out, and after it what still waits, is what waited and was put and not dropped: so each
-- goes out once, in order
abbrev pub GoesOutInOrder : Type 0
GoesOutInOrder =
    (b : OutboxValue) (calls : List Call)
    → datagrams_of (tried b calls) ++ (run b calls).waiting ≡ b.waiting ++ kept b calls

-- ---- contacts

-- a face's link is open at a moment: it has no contacts, or the moment lies in one
abbrev pub IsOpenAt : ScheduleValue → ℕ → Type 0
IsOpenAt s moment = (s.windows ≡ []) ⊎ (is_open s.windows moment ≡ true)

-- each goes out at a reading at which the link is open
abbrev pub GoesOutInContact : Type 0
GoesOutInContact =
    (b : OutboxValue) (calls : List Call)
    → AllByRecursion (λ t. IsSomeAnd t.reading (λ now. IsOpenAt b.schedule now.wall))
    (tried b calls)

-- ---- pace

-- from a reading on, while all lie in one contact that has a rate, no more octets go out than the
-- rate carries till the last reading and 10 milliseconds more, but for those of the longest one
abbrev pub KeepsPace : Type 0
KeepsPace =
    (b : OutboxValue) (first : Reading) (contact rate : ℕ) (calls : List Call)
    → contact_at b.schedule first.wall ≡ Some contact
    → rate_of b.schedule (Some contact) ≡ Some rate
    → StaysIn b.schedule contact calls → Rises first.monotonic calls
    → octets_in (datagrams_of (tried (after_reading b first) calls))
    ≤ rate * (last_monotonic first.monotonic calls - first.monotonic + 10) / 1000
    + longest (datagrams_of (tried (after_reading b first) calls))

-- ---- a face's time

-- it never falls, and never grows faster than the monotonic clock
abbrev pub TimeGoesOn : Type 0
TimeGoesOn =
    (b : OutboxValue) (face : FaceMoment) (calls : List Call)
    → Rises (face.reading).monotonic calls
    → (face.moment ≤ (time_over b face calls).moment)
    × ((time_over b face calls).moment
    ≤ face.moment + (last_monotonic (face.reading).monotonic calls - (face.reading).monotonic))

-- the link is closed from one moment of the wall clock to before another
pub record IsClosedFrom (s : ScheduleValue) (from to : ℕ) : Type 0 where
  pub contacts : s.windows ≢ []
  pub closed : (moment : ℕ) → from ≤ moment → moment < to → is_open s.windows moment ≡ false

-- before each reading datagrams wait, or the link was closed since the reading before
abbrev pub IsHeldAt : OutboxValue → FaceMoment → Call → Type 0
IsHeldAt b face (reads now) =
    (b.waiting ≢ []) ⊎ IsClosedFrom b.schedule (face.reading).wall now.wall
IsHeldAt b face (puts datagram) = Unit {0}
IsHeldAt b face refuses = Unit {0}
IsHeldAt b face sends = Unit {0}

abbrev pub IsHeld : OutboxValue → FaceMoment → List Call → Type 0
IsHeld b face [] = Unit {0}
IsHeld b face (call ∷ calls) =
    IsHeldAt b face call × IsHeld (after_call b call) (time_by b face call) calls

-- then it stays
abbrev pub TimeStays : Type 0
TimeStays =
    (b : OutboxValue) (face : FaceMoment) (calls : List Call)
    → IsHeld b face calls → (time_over b face calls).moment ≡ face.moment
