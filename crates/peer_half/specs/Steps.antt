-- The steps of the gate in a half, all at the moments of its reading.

use Rattle.std.specs.Prelude.{ℕ, Bool, true, false, List, [], ◌∷◌, map, Option, None, Some}
use Rattle.ltp_engine.specs.Sessions.{is_open, is_handed_up}
use Rattle.gateway_core.specs.declared.effects.Routed.{Routed}
use Rattle.gateway_core.specs.Gate.{at_face, with_face}
use Rattle.gate_events.specs.Own.{OpenAt}
use Rattle.outbox.specs.Outbox.{octets_in}
use Rattle.gate_face.specs.Faces.{FaceStanding}
use Rattle.gate_face.specs.Halves.{putting, refusing}
use Rattle.peer_gateway.specs.Gate.{PeerGate, PeerStep}
use Rattle.peer_gateway.specs.Steps.{PeerEvent, peer_step}
use Rattle.peer_gateway.specs.Answers.{Answered, answer_of}
use Rattle.peer_events.specs.Own.{own_seen}
use Rattle.peer_events.specs.Counts.{begun_counted}
use Rattle.peer_events.specs.Events.{events_of, own_after_step}
use Rattle.peer_records.specs.Happened.{PeerHappened}
use Rattle.peer_records.specs.Halves.{recording}
use Rattle.peer_half.specs.Journals.{Journalled}
use Rattle.peer_half.specs.Standing.{Standing, saying_all}

-- ---- what a step made is put at its face, or dropped, in order

-- a datagram is put into the outbox; or it is dropped, and counted as one for which the outbox has no room
abbrev pub putting_if : (is_put : Bool) → List ℕ → FaceStanding → FaceStanding
putting_if true datagram f = putting datagram f
putting_if false datagram f = refusing f

-- each as the gate says of it
unfoldable pub putting_all : List Bool → List Routed → FaceStanding × FaceStanding → FaceStanding × FaceStanding
putting_all [] out faces = faces
putting_all (is_put ∷ puts) [] faces = faces
putting_all (is_put ∷ puts) (routed ∷ more) faces =
    putting_all puts more
    (with_face faces routed.face (putting_if is_put routed.datagram (at_face faces routed.face)))

-- ---- the own sessions

-- those that are open, of the sessions that are sent at each face
abbrev pub opens_in : PeerGate → OpenAt
opens_in g face session = is_open session (((at_face g.faces face).sessions).engine).senders

-- those that were handed up, of the sessions of each face's peer that are kept
abbrev pub ups_in : PeerGate → OpenAt
ups_in g face session = is_handed_up session (((at_face g.faces face).sessions).engine).receivers

-- ---- a step: what it did, and which sessions are open after it

-- what it made is put or dropped; the sessions that it began are counted; what it tells is said, and which own sessions
-- ended; and those that it began are own sessions
abbrev pub telling : OpenAt → Answered → Standing → Standing
telling opened answer s =
    saying_all (events_of opened s.own answer.told)
    (record s {
      faces = putting_all answer.puts answer.out s.faces;
      own = own_after_step opened answer.told answer.begun s.own;
      counters = begun_counted answer.begun s.counters;
    })

-- how many octets wait in each outbox
abbrev pub outboxes_in : Standing → ℕ × ℕ
outboxes_in s =
    (octets_in ((s.faces.0).outbox).waiting, octets_in ((s.faces.1).outbox).waiting)

-- an event of the gate, at the moments of the half
abbrev pub step_of : PeerEvent → Standing → PeerStep
step_of event s = peer_step s.setup event s.moments (outboxes_in s) s.gate

-- after which this is known of the journal
unfoldable pub happens_with : PeerEvent → Option Journalled → Standing → Standing
happens_with event journal s =
    telling (opens_in (step_of event s).gate) (answer_of (step_of event s).effects)
    (record s { gate = (step_of event s).gate; journal = journal })

-- ---- what is to be recorded of a step

-- what it did, as far as the journal has to know it: it was to add a piece of an earlier run with this id, or
-- not
abbrev pub happened_in : Option ℕ → PeerEvent → Standing → PeerHappened
happened_in again event s = record {
  wall = (s.moments).wall;
  own = map own_seen s.own;
  is_open = opens_in (step_of event s).gate;
  is_handed_up = ups_in (step_of event s).gate;
  out = (answer_of (step_of event s).effects).out;
  told = (answer_of (step_of event s).effects).told;
  again = again;
  added = (answer_of (step_of event s).effects).added;
  begun = (answer_of (step_of event s).effects).begun;
}

-- its records stand with those of the half
abbrev pub recorded_with : PeerHappened → Option Journalled → Option Journalled
recorded_with h None = None
recorded_with h (Some j) = Some (record { recorded = recording h j.recorded; place = j.place })

-- an event that is to add a piece of an earlier run, or any other
abbrev pub happens_again : Option ℕ → PeerEvent → Standing → Standing
happens_again again event s =
    happens_with event (recorded_with (happened_in again event s) s.journal) s

abbrev pub happens : PeerEvent → Standing → Standing
happens event s = happens_again None event s
