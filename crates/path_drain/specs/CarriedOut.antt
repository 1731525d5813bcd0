-- What the gate decides about a block it does, with the event that hands the block up: each piece of
-- a bundle that passes begins a session at the other face, and a report that is noted as made begins
-- one at the face at which its subject came.

use Rattle.std.specs.Prelude.{◌≡◌, ℕ, ◌≤◌, List, Some, slice_get}
use Rattle.endpoint.specs.Endpoints.{IsEndpoint}
use Rattle.wire_fields.specs.Reading.{IsOctets}
use Rattle.ltp_segment.specs.declared.session.TheConstants.{BLOCK_MAX}
use Rattle.ltp_laws.specs.View.{IsIn}
use Rattle.gate_cases.specs.declared.face.Face.{Face}
use Rattle.gate_cases.specs.declared.report.AskedReport.{AskedReport}
use Rattle.gate_cases.specs.Bundles.{status_bundle}
use Rattle.gate_cases.specs.Faces.{other_of}
use Rattle.gateway_core.specs.declared.note.GateNote.TheVariants as notes
use Rattle.gateway_core.specs.Gate.{at_face, judged_at}
use Rattle.path_laws.specs.declared.effects.NoteAt.{NoteAt}
use Rattle.path_laws.specs.declared.effects.UpAt.{UpAt}
use Rattle.path_laws.specs.declared.places.Place.{Place}
use Rattle.path_laws.specs.Places.{end_of, face_place}
use Rattle.path_laws.specs.Path.{PathSetup, Path, PathEvent, path_run, path_step}
use Rattle.path_laws.specs.Log.{Begun, Origin, a_piece, a_report, begun_at, ups_in}
use Rattle.path_drain.specs.Completion.{IsCaseNotedIn}

-- the engines of the gate take blocks of up to BLOCK_MAX octets,
-- and send 64 sessions at once, or more
pub record TakesBlocks (s : PathSetup) : Type 0 where
  pub each : (face : Face) → (at_face s.gate.parties face).most ≡ BLOCK_MAX
  pub places : (face : Face) → 64 ≤ (at_face s.gate.parties face).sessions

-- among these sessions is one that began at a place, with this block, which comes from there
pub record IsBegun (begun : List Begun) (place : Place) (block : List ℕ) (origin : Origin) : Type 0
  where
    pub session : ℕ
    pub among :
        IsIn (record { place = place; session = session; block = block; origin = origin }) begun

-- each piece of what becomes of a block that an event hands up at a face, as the gate decides about
-- it when the event comes to the path w, begins a session at the other face with that event
abbrev pub PiecesBegin : PathSetup → Path → PathEvent → Face → UpAt → Type 0
PiecesBegin s w event face up =
    (i : ℕ) (piece : List ℕ)
    → slice_get (judged_at s.gate face w.now up.body w.gate).pieces i ≡ Some piece
    → IsBegun (begun_at s w event) (face_place (other_of face)) piece
    (a_piece (end_of face) up.session i)

-- Among these sessions is that of the report on a block which came at a face. It is what the gate is
-- asked for, as it decides when the event that hands the block up comes to the path w; it is made by
-- the clock then, with the number that the gate's counter has; and it begins at that face.
pub record IsReportBegun (s : PathSetup) (w : Path) (begun : List Begun) (face : Face) (up : UpAt)
    : Type 0 where
  pub asked : AskedReport
  pub asks : (judged_at s.gate face w.now up.body w.gate).report ≡ Some asked
  pub begins :
      IsBegun begun (face_place face) (status_bundle s.gate.gate w.gate.counter w.now asked)
      (a_report (end_of face) up.session)

-- among these notes a face says that it made a report on a block that came there
abbrev pub IsReportNoted : List NoteAt → Face → UpAt → Type 0
IsReportNoted noted face up =
    IsIn (record { place = face_place face; note = notes.Reported up.session }) noted

-- Where the event that hands a block up notes a report on it, the report's session begins with that
-- event. The gate's name is one that has a text, and the block is of octets, as each is that a node
-- sends: then no report is too long for a session.
abbrev pub ReportBegins : PathSetup → Path → PathEvent → Face → UpAt → Type 0
ReportBegins s w event face up =
    IsEndpoint s.gate.gate → IsOctets up.body
    → IsReportNoted (path_step s w event).effects.notes face up
    → IsReportBegun s w (begun_at s w event) face up

-- A block came whole at a face in one of some events. The event notes its case, with the number of
-- its pieces where it passes; and with it each of these pieces begins its session, and so does the
-- report on the block where it notes one.
pub record IsCarriedOutIn
    (s : PathSetup) (w : Path) (events : List PathEvent) (face : Face) (up : UpAt) : Type 0 where
  pub case : IsCaseNotedIn s w events face up
  pub pieces : PiecesBegin s (path_run s w case.earlier) case.event face up
  pub report : ReportBegins s (path_run s w case.earlier) case.event face up

-- so it is with each block that comes whole at a face, in every run
abbrev pub DecisionsAreCarriedOut : Type 0
DecisionsAreCarriedOut =
    (s : PathSetup) (w : Path) (events : List PathEvent) (face : Face) (up : UpAt) → TakesBlocks s
    → IsIn up (ups_in s w events) → up.place ≡ face_place face
    → IsCarriedOutIn s w events face up
