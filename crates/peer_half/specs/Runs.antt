-- How a run stands after some halves, and what happened to its gateway in them.

use Rattle.std.specs.Prelude.{ℕ, zero, suc, Bool, List, [], ◌∷◌, ◌++◌, Option, if◌then◌else◌}
use Rattle.ltp_segment.specs.Reading.{segment_of}
use Rattle.gate_cases.specs.declared.face.Face.{Face}
use Rattle.gate_cases.specs.declared.face.Face.TheVariants.{Old, New}
use Rattle.gate_cases.specs.Faces.{other_of}
use Rattle.gate_config.specs.declared.file.GateFile.{GateFile}
use Rattle.journal_file.specs.Values.{KeptValue}
use Rattle.peer_gateway.specs.Keys.{PeerSetup}
use Rattle.peer_gateway.specs.Gate.{PeerGate, PeerMoments, starts_peer_gate}
use Rattle.peer_gateway.specs.Steps.{PeerEvent, a_datagram, a_tick}
use Rattle.peer_half.specs.Setup.{setup_in}
use Rattle.peer_half.specs.Journals.{marked_each, starts_journal}
use Rattle.peer_half.specs.Standing.{Standing}
use Rattle.peer_half.specs.Steps.{outboxes_in}
use Rattle.peer_half.specs.Acts.{Act, and_then}
use Rattle.peer_half.specs.Parts.{arrives, begin_of, is_added, next_resumed, pending_in, reads, resumed, resumes, resumes_at, ticks, where_some}
use Rattle.peer_half.specs.Half.{Came, half}
use Rattle.peer_half.specs.Run.{halves, recovers}

-- ---- how it stands

-- A run: its file, what earlier runs kept, where a journal is kept, whether there is a board, what the
-- wall clock shows at its first reading, and what came to each of its halves.
pub record Run : Type 0 where
  pub file : GateFile
  pub kept : Option KeptValue
  pub board : Bool
  pub wall : ℕ
  pub comes : List Came

abbrev pub setup_of : Run → PeerSetup
setup_of r = setup_in r.file r.kept r.wall

-- the sessions that are marked when it begins, at each face: earlier runs had claimed them in part
abbrev pub marked_before : Run → List ℕ × List ℕ
marked_before r = marked_each (starts_journal r.file r.wall r.kept)

-- its gate before anything happens
abbrev pub first_gate : Run → PeerGate
first_gate r = starts_peer_gate (setup_of r) (r.wall, r.wall) (marked_before r)

-- before its first half
abbrev pub begins_at : Run → Standing
begins_at r = (recovers r.file r.kept r.wall).standing

-- how the run stands after all of these halves, and what it made
abbrev pub stands_at : Run → Standing
stands_at r = (halves r.board Old r.comes (begins_at r)).standing

abbrev pub acts_of : Run → List Act
acts_of r = (and_then (recovers r.file r.kept r.wall) (halves r.board Old r.comes)).acts

-- ---- what happened to its gate in a half

-- an event, at its moments, and with so many octets in each outbox
abbrev pub EventIn : Type 0
EventIn = PeerEvent × (PeerMoments × (ℕ × ℕ))

-- where a run stands so
abbrev pub event_at : PeerEvent → Standing → EventIn
event_at event s = (event, (s.moments, outboxes_in s))

-- the pieces of earlier runs that are to be added at a face, at most so many: the last is one for which there
-- is no room
unfoldable pub resumed_in : ℕ → Face → Standing → List EventIn
resumed_in zero face s = []
resumed_in (suc n) face s =
    where_some (next_resumed face s)
    (λ p. event_at (begin_of p) s ∷ (if is_added p s then resumed_in n face (resumed p s) else [])) []

abbrev pub resumed_at : Face → Standing → List EventIn
resumed_at face s = resumed_in (pending_in s.journal) face s

-- at the old face, and then at the new one
abbrev pub resumed_each : Standing → List EventIn
resumed_each s = resumed_at Old s ++ resumed_at New (resumes_at Old s)

-- datagrams come at a face, in order
unfoldable pub arrived_in : Face → List (List ℕ) → Standing → List EventIn
arrived_in face [] s = []
arrived_in face (datagram ∷ more) s =
    event_at (a_datagram face (segment_of datagram)) s ∷ arrived_in face more (arrives face datagram s)

-- once the clocks are read: pieces of earlier runs are to be added, time passes, and then the half's datagrams
-- come; the oldest first
abbrev pub heard_in : Face → Came → Standing → List EventIn
heard_in face came s =
    resumed_each s ++ (event_at a_tick (resumes s) ∷ arrived_in face came.datagrams (ticks (resumes s)))

abbrev pub events_in : Face → Came → Standing → List EventIn
events_in face came s = heard_in face came (reads came.reading s)

-- ---- and in the run

-- earlier events, the newest first, with others after them
abbrev pub after_events : List EventIn → List EventIn → List EventIn
after_events [] earlier = earlier
after_events (event ∷ more) earlier = after_events more (event ∷ earlier)

unfoldable pub after_halves :
    (board : Bool) → Face → List Came → Standing → List EventIn → List EventIn
after_halves board face [] s earlier = earlier
after_halves board face (came ∷ more) s earlier =
    after_halves board (other_of face) more (half board face came s).standing
    (after_events (events_in face came s) earlier)

-- all that happened to the gate in a run, the newest first
abbrev pub events_of : Run → List EventIn
events_of r = after_halves r.board Old r.comes (begins_at r) []
