-- What happens to a face in a half of a run.

use Rattle.std.specs.Prelude.{ℕ, ◌-◌, nat_lt, List, Option, None, Some, if◌then◌else◌}
use Rattle.contact_plan.specs.Windows.{next_from}
use Rattle.gate_log.specs.declared.event.LinkEvent.{LinkEvent}
use Rattle.gate_log.specs.declared.event.LinkEvent.TheVariants as links
use Rattle.gate_metrics.specs.declared.gauges.LinkGauge.{LinkGauge}
use Rattle.gate_metrics.specs.declared.gauges.LinkGauge.TheVariants as states
use Rattle.outbox.specs.declared.reading.Reading.{Reading}
use Rattle.outbox.specs.Outbox.{OutboxValue, after_putting, after_reading, after_refusing, after_sending, contact_of}
use Rattle.outbox.specs.Outbox.{one_more}
use Rattle.outbox.specs.FaceTime.{face_at}
use Rattle.gate_face.specs.Faces.{FaceStanding}

-- the clocks are read: its debt, its contact and its moment are those of this reading
abbrev pub after_clocks : Reading → FaceStanding → FaceStanding
after_clocks now f = record {
  outbox = after_reading f.outbox now;
  time = Some (face_at f.outbox f.time now);
  dropped = (f.outbox).dropped;
  lost = 0;
}

-- a datagram is put into its outbox, or dropped where there is no room for it
abbrev pub putting : List ℕ → FaceStanding → FaceStanding
putting datagram f = record f { outbox = after_putting f.outbox datagram }

-- one is dropped that isn't put, since others keep the room that it would take
abbrev pub refusing : FaceStanding → FaceStanding
refusing f = record f { outbox = after_refusing f.outbox }

-- the datagram that may go next is taken out, where there is one
abbrev pub taking : FaceStanding → FaceStanding
taking f = record f { outbox = after_sending f.outbox }

-- its send failed
abbrev pub losing : FaceStanding → FaceStanding
losing f = record f { lost = one_more f.lost }

-- ---- what went wrong in this half, where something did

abbrev pub where_any : ℕ → LinkEvent → Option LinkEvent
where_any count event = if nat_lt 0 count then Some event else None

-- datagrams were dropped
abbrev pub full_in : FaceStanding → ℕ
full_in f = (f.outbox).dropped - f.dropped

abbrev pub full_event : FaceStanding → Option LinkEvent
full_event f = where_any (full_in f) (links.OutboxFull (full_in f))

-- sends failed
abbrev pub lost_event : FaceStanding → Option LinkEvent
lost_event f = where_any f.lost (links.SendFailed f.lost)

-- ---- whether the link is open

-- how long till a contact begins
abbrev pub opens_after : Option ℕ → ℕ → LinkGauge
opens_after None wall = states.Closed
opens_after (Some begins) wall = states.Opens (begins - wall)

abbrev pub link_by : OutboxValue → Option ℕ → ℕ → LinkGauge
link_by b (Some contact) wall = states.Open
link_by b None wall = opens_after (next_from (b.schedule).windows wall) wall

-- by the last reading, whose wall clock showed this
abbrev pub link_at : OutboxValue → ℕ → LinkGauge
link_at b wall = link_by b (contact_of b) wall
