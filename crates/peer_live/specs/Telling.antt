-- What a gateway at work keeps besides its gate, and what is told of a half.

use Rattle.std.specs.Prelude.{ℕ, Bool, true, false, List, flat_map, Option, None, Some}
use Rattle.gate_cases.specs.declared.face.Face.{Face}
use Rattle.gate_cases.specs.declared.face.Face.TheVariants.{Old, New}
use Rattle.gate_log.specs.declared.event.BundleEvent.TheVariants as bundles
use Rattle.gate_log.specs.declared.event.Event.{Event}
use Rattle.gate_log.specs.declared.event.Event.TheVariants as events
use Rattle.gate_log.specs.declared.event.LinkEvent.{LinkEvent}
use Rattle.gate_log.specs.declared.subject.Subject.{Subject}
use Rattle.gate_log.specs.Lines.{line_of}
use Rattle.gate_metrics.specs.declared.counters.Counted.{Counted}
use Rattle.gate_metrics.specs.declared.counters.Counted.TheVariants as things
use Rattle.gateway_core.specs.Gate.{at_face, with_face}
use Rattle.gate_events.specs.Own.{OpenAt}
use Rattle.gate_events.specs.Log.{LogValue, after_saying, after_saying_all, started_at, with_counted}
use Rattle.gate_face.specs.Contacts.{told_at}
use Rattle.gate_face.specs.Faces.{FaceStanding}
use Rattle.gate_face.specs.Halves.{after_clocks, full_event, losing, lost_event}
use Rattle.outbox.specs.declared.reading.Reading.{Reading}
use Rattle.outbox.specs.Outbox.{octets_in}
use Rattle.peer_events.specs.declared.own.OwnBlock.{OwnBlock}
use Rattle.peer_events.specs.Counts.{with_begun}
use Rattle.peer_events.specs.Events.{events_of, own_after_step}
use Rattle.peer_gateway.specs.Answers.{Answered}
use Rattle.peer_half.specs.Standing.{Standing, wall_of}
use Rattle.peer_half.specs.Steps.{putting_all}

-- the faces, the own sessions, and the log
pub record KeptValue : Type 0 where
  pub faces : FaceStanding × FaceStanding
  pub own : List OwnBlock
  pub log : LogValue

-- those of a run that stands so: the log has the lines of this half, and what was counted
abbrev pub kept_of : Standing → KeptValue
kept_of s = record {
  faces = s.faces;
  own = s.own;
  log = record {
    at = wall_of s;
    text = flat_map (line_of (wall_of s)) s.said;
    counters = s.counters;
  };
}

-- how many octets wait in each outbox
abbrev pub outboxes_of : FaceStanding × FaceStanding → ℕ × ℕ
outboxes_of faces = (octets_in ((faces.0).outbox).waiting, octets_in ((faces.1).outbox).waiting)

-- ---- what is done to them, each as the definition of a half does it

-- an event is said
abbrev pub says : Event → KeptValue → KeptValue
says event k = record k { log = after_saying event k.log }

-- where something was added that it tells of
abbrev pub says_if : (added : Bool) → Event → KeptValue → KeptValue
says_if true event k = says event k
says_if false event k = k

-- an event of a face's link, where there is one
abbrev pub says_of : Face → Option LinkEvent → KeptValue → KeptValue
says_of face None k = k
says_of face (Some what) k = says (events.Link face what) k

abbrev pub counts : Face → Counted → KeptValue → KeptValue
counts face what k = record k { log = with_counted face what k.log }

-- something is done to a face
abbrev pub does_at : Face → (FaceStanding → FaceStanding) → KeptValue → KeptValue
does_at face does k = record k { faces = with_face k.faces face (does (at_face k.faces face)) }

-- the clocks are read, and what there is to tell of the contacts is said
abbrev pub reads : Reading → KeptValue → KeptValue
reads now k =
    says_of New (told_at (k.faces.1).outbox now)
    (says_of Old (told_at (k.faces.0).outbox now)
    (record k {
      faces = (after_clocks now k.faces.0, after_clocks now k.faces.1);
      log = started_at now.wall k.log;
    }))

-- the datagrams that the gate answers are put or dropped, as it says
abbrev pub puts : Answered → KeptValue → KeptValue
puts answer k = record k { faces = putting_all answer.puts answer.out k.faces }

-- a step of the gate: which sessions are open after it, and what it answered
abbrev pub tells : OpenAt → Answered → KeptValue → KeptValue
tells opened answer k = record {
  faces = putting_all answer.puts answer.out k.faces;
  own = own_after_step opened answer.told answer.begun k.own;
  log = after_saying_all (events_of opened k.own answer.told) (with_begun answer.begun k.log);
}

-- a datagram that was taken out went, or its send failed
abbrev pub loses : Face → KeptValue → KeptValue
loses face k = counts face things.SendFailed (does_at face losing k)

-- what went wrong at a face in this half
abbrev pub troubles : Face → KeptValue → KeptValue
troubles face k =
    says_of face (lost_event (at_face k.faces face))
    (says_of face (full_event (at_face k.faces face)) k)

-- ---- a piece of an earlier run that was added

-- it goes in this session, or waits for others
abbrev pub added_event : Face → Option Subject → Option ℕ → Event
added_event face subject None = events.Waiting face subject
added_event face subject (Some session) = events.Bundle face session subject bundles.Resumed
