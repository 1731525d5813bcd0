-- What is told of a face's contacts: that one began, or that the link is closed.

use Rattle.std.specs.Prelude.{ℕ, Bool, true, false, not, ◌==◌, List, [], ◌∷◌, Option, None, Some}
use Rattle.std.specs.Prelude.{if◌then◌else◌}
use Rattle.std.specs.List.{slice_get}
use Rattle.std.specs.Option.{is_some}
use Rattle.contact_plan.specs.declared.window.Window.{Window}
use Rattle.contact_plan.specs.Windows.{next_from}
use Rattle.gate_log.specs.declared.event.LinkEvent.{LinkEvent}
use Rattle.gate_log.specs.declared.event.LinkEvent.TheVariants as links
use Rattle.outbox.specs.declared.reading.Reading.{Reading}
use Rattle.outbox.specs.Schedule.{ScheduleValue, contact_at, rate_of}
use Rattle.outbox.specs.Outbox.{OutboxValue, contact_of}

-- when a contact ends
abbrev pub end_of : Option Window → ℕ
end_of None = 0
end_of (Some window) = window.to

-- which contact a moment of the wall clock lies in: the face is in this one now, till its end; or its
-- link is closed, till the next one begins, if there is one
abbrev pub contact_event : ScheduleValue → Option ℕ → ℕ → LinkEvent
contact_event s (Some contact) wall =
    links.ContactOpened (rate_of s (Some contact)) (end_of (slice_get s.windows contact))
contact_event s None wall = links.ContactClosed (next_from s.windows wall)

-- both are the same contact, or the link is closed at both
abbrev pub is_unchanged : (before now : Option ℕ) → Bool
is_unchanged None None = true
is_unchanged None (Some now) = false
is_unchanged (Some before) None = false
is_unchanged (Some before) (Some now) = before == now

-- of a face without contacts nothing is told; of one with contacts it is told at the first reading of
-- the clocks, and at each later one whose contact isn't that of the reading before
abbrev pub is_told : List Window → (read_before : Bool) → (before now : Option ℕ) → Bool
is_told [] read_before before now = false
is_told (window ∷ windows) false before now = true
is_told (window ∷ windows) true before now = not (is_unchanged before now)

-- what is told at a moment of the wall clock, by the contact of the reading before and this one's
abbrev pub told_of :
    ScheduleValue → (read_before : Bool) → (before now : Option ℕ) → ℕ → Option LinkEvent
told_of s read_before before now wall =
    if is_told s.windows read_before before now then Some (contact_event s now wall) else None

-- what is told at a reading, of the outbox as it is before it
abbrev pub told_at : OutboxValue → Reading → Option LinkEvent
told_at b now =
    told_of b.schedule (is_some b.reading) (contact_of b) (contact_at b.schedule now.wall) now.wall
