-- How a run of the gateway stands.

use Rattle.std.specs.Prelude.{ℕ, Bool, false, List, [], ◌∷◌, ◌++◌, Option, None, Some}
use Rattle.gate_cases.specs.declared.face.Face.{Face}
use Rattle.gate_config.specs.declared.file.GateFile.{GateFile}
use Rattle.gate_metrics.specs.declared.counters.Counted.{Counted}
use Rattle.gate_metrics.specs.declared.counters.Counters.{Counters}
use Rattle.gate_metrics.specs.Counting.{none_counted, counted_at}
use Rattle.gate_log.specs.declared.event.Event.{Event}
use Rattle.gate_log.specs.declared.event.Event.TheVariants as events
use Rattle.gate_log.specs.declared.event.LinkEvent.{LinkEvent}
use Rattle.gateway_core.specs.Gate.{at_face, with_face}
use Rattle.gate_events.specs.Counts.{event_counted}
use Rattle.gate_face.specs.Faces.{FaceStanding, starts_face}
use Rattle.journal_file.specs.Values.{KeptValue}
use Rattle.peer_gateway.specs.Keys.{PeerSetup}
use Rattle.peer_gateway.specs.Gate.{PeerMoments, PeerGate, starts_peer_gate}
use Rattle.peer_events.specs.declared.own.OwnBlock.{OwnBlock}
use Rattle.peer_half.specs.Setup.{setup_in}
use Rattle.peer_half.specs.Moments.{same}
use Rattle.peer_half.specs.Journals.{Journalled, marked_each, starts_journal}

pub record Standing : Type 0 where
  -- how the gateway is set up, and the gate
  pub setup : PeerSetup
  pub gate : PeerGate
  -- the moments of this half
  pub moments : PeerMoments
  -- its faces, the old one first
  pub faces : FaceStanding × FaceStanding
  -- the sessions that it began and that haven't ended, each with its block
  pub own : List OwnBlock
  -- the events of this half, in order, and the counters
  pub said : List Event
  pub counters : Counters
  -- where a journal is kept, what the run knows of it
  pub journal : Option Journalled
  -- whether the line `start` was said
  pub started : Bool
  -- what the wall clock showed when the metrics were last to be put in place
  pub shown : Option ℕ

-- ---- before the first half

-- before anything happens, where the wall clock shows this at the first reading, and earlier runs kept
-- this, if a journal is kept: the sessions that they had claimed in part can't be handed up
abbrev pub starts_empty : GateFile → Option KeptValue → ℕ → Standing
starts_empty file kept wall = record {
  setup = setup_in file kept wall;
  gate = starts_peer_gate (setup_in file kept wall) (wall, wall)
      (marked_each (starts_journal file wall kept));
  moments = same wall;
  faces = (starts_face file.old, starts_face file.new);
  own = [];
  said = [];
  counters = none_counted;
  journal = starts_journal file wall kept;
  started = false;
  shown = None;
}

-- what the wall clock shows in this half
abbrev pub wall_of : Standing → ℕ
wall_of s = (s.moments).wall

-- ---- a face

abbrev pub face_of : Face → Standing → FaceStanding
face_of face s = at_face s.faces face

abbrev pub with_faces : FaceStanding × FaceStanding → Standing → Standing
with_faces faces s = record s { faces = faces }

-- something is done to a face
abbrev pub doing_at : Face → (FaceStanding → FaceStanding) → Standing → Standing
doing_at face does s = with_faces (with_face s.faces face (does (face_of face s))) s

-- ---- what is told, and what is counted

-- an event is said, and counted
abbrev pub saying : Event → Standing → Standing
saying event s = record s {
  said = s.said ++ event ∷ [];
  counters = event_counted event s.counters;
}

unfoldable pub saying_all : List Event → Standing → Standing
saying_all [] s = s
saying_all (event ∷ more) s = saying_all more (saying event s)

-- an event of a face's link, where there is one
abbrev pub saying_of : Face → Option LinkEvent → Standing → Standing
saying_of face None s = s
saying_of face (Some what) s = saying (events.Link face what) s

-- what no line tells is counted
abbrev pub counting : Face → Counted → Standing → Standing
counting face what s = record s { counters = counted_at face what s.counters }
