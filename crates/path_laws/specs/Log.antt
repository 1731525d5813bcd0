-- What a path begins and hands up: each session with the block that it carries, and where that
-- comes from.

use Rattle.std.specs.Prelude.{ℕ, ◌+◌, List, [], ◌∷◌, ◌++◌, Option, None, Some, Result, Ok, Err}
use Rattle.std.specs.Prelude.{slice_get, if◌then◌else◌}
use Rattle.ltp_session.specs.Engine.{EngineStep, SubmitFault, UpValue}
use Rattle.gate_cases.specs.declared.face.Face.{Face}
use Rattle.gate_cases.specs.declared.judged.Judged.{Judged}
use Rattle.gate_cases.specs.declared.report.AskedReport.{AskedReport}
use Rattle.gate_cases.specs.Faces.{other_of}
use Rattle.gate_cases.specs.Bundles.{status_bundle}
use Rattle.gateway_core.specs.Gate.{GateSetup, Gate, at_face, does_at, hears_at, submission_at}
use Rattle.gateway_core.specs.Gate.{sends_at, in_turn, judged_at, is_unreported, passes_at}
use Rattle.path_laws.specs.declared.effects.UpAt.{UpAt}
use Rattle.path_laws.specs.declared.places.PathEnd.{PathEnd}
use Rattle.path_laws.specs.declared.places.Place.{Place}
use Rattle.path_laws.specs.Places.{end_of, face_place, node_place, across, Stand, at_node, at_gate}
use Rattle.path_laws.specs.Places.{stand_of}
use Rattle.path_laws.specs.Path.{PathSetup, Path, SentFrom, PathEvent, sends, delivers}
use Rattle.path_laws.specs.Path.{clock_shows, at_path_end, sends_block, path_step}
use Rattle.ltp_segment.specs.Values.{SegmentValue}

-- ---- sessions that are begun

-- Where a session's block comes from. The n-th block that an end sends, and that isn't refused, has
-- the session number n there.
pub data Origin : Type 0 where
  -- the n-th send of an end itself
  a_send : PathEnd → ℕ → Origin
  -- the i-th piece, from 0, of what becomes of the n-th send of an end
  a_piece : PathEnd → ℕ → ℕ → Origin
  -- the report on the n-th send of an end
  a_report : PathEnd → ℕ → Origin

-- a session that was begun at a place, its block, and where that comes from
pub record Begun : Type 0 where
  pub place : Place
  pub session : ℕ
  pub block : List ℕ
  pub origin : Origin

-- a block that is refused begins none
abbrev pub begun_unless : Begun → Result EngineStep SubmitFault → List Begun
begun_unless b (Ok step) = b ∷ []
begun_unless b (Err fault) = []

-- a block is submitted at a face, which takes the next number there
abbrev pub begun_by : GateSetup → Face → ℕ → List ℕ → Origin → Gate → List Begun
begun_by s face now block origin g =
    begun_unless
    (record {
      place = face_place face;
      session = (at_face g.engines face).next;
      block = block;
      origin = origin;
    })
    (submission_at s face now block g)

-- pieces, from the i-th on, of what becomes of an end's n-th send
unfoldable pub pieces_begun :
    GateSetup → Face → ℕ → PathEnd → ℕ → ℕ → List (List ℕ) → Gate → List Begun
pieces_begun s face now end n i [] g = []
pieces_begun s face now end n i (piece ∷ pieces) g =
    begun_by s face now piece (a_piece end n i) g
    ++ pieces_begun s face now end n (i + 1) pieces (sends_at s face now piece g).gate

-- the report on it, where one is made
abbrev pub report_begun :
    GateSetup → Face → ℕ → PathEnd → ℕ → Option AskedReport → Gate → List Begun
report_begun s face now end n None g = []
report_begun s face now end n (Some asked) g =
    if is_unreported face now g then []
    else begun_by s face now (status_bundle s.gate g.counter now asked) (a_report end n)
    (record g { counter = g.counter + 1 })

-- the pieces are sent at the other face, and then the report at this one
abbrev pub decided_begun : GateSetup → Face → ℕ → ℕ → Judged → Gate → List Begun
decided_begun s face now n j g =
    pieces_begun s (other_of face) now (end_of face) n 0 j.pieces g
    ++ report_begun s face now (end_of face) n j.report
    (in_turn (sends_at s (other_of face) now) j.pieces g).gate

-- blocks came whole at a face
unfoldable pub passed_begun : GateSetup → Face → ℕ → List UpValue → Gate → List Begun
passed_begun s face now [] g = []
passed_begun s face now (up ∷ ups) g =
    decided_begun s face now up.session (judged_at s face now up.body g) g
    ++ passed_begun s face now ups (passes_at s face now up g).gate

-- a segment comes to a place
abbrev pub come_begun : PathSetup → Path → Stand → SegmentValue → List Begun
come_begun s w (at_node end) segment = []
come_begun s w (at_gate face) segment =
    passed_begun s.gate face w.now (hears_at s.gate face w.gate (Ok segment) w.now).effects.ups
    (does_at face w.gate (hears_at s.gate face w.gate (Ok segment) w.now)).gate

abbrev pub delivered_begun : PathSetup → Path → Option SentFrom → List Begun
delivered_begun s w None = []
delivered_begun s w (Some d) = come_begun s w (stand_of (across d.from)) d.segment

-- what an event begins
abbrev pub begun_at : PathSetup → Path → PathEvent → List Begun
begun_at s w (sends end block) =
    begun_unless
    (record {
      place = node_place end;
      session = (at_path_end w.nodes end).next;
      block = block;
      origin = a_send end (at_path_end w.nodes end).next;
    })
    (sends_block s w end block)
begun_at s w (delivers k) = delivered_begun s w (slice_get w.sent k)
begun_at s w (clock_shows now) = []

-- what a run begins, in order
unfoldable pub begun_in : PathSetup → Path → List PathEvent → List Begun
begun_in s w [] = []
begun_in s w (event ∷ events) =
    begun_at s w event ++ begun_in s (path_step s w event).path events

-- ---- blocks that are handed up

-- what a run hands up, in order
unfoldable pub ups_in : PathSetup → Path → List PathEvent → List UpAt
ups_in s w [] = []
ups_in s w (event ∷ events) =
    (path_step s w event).effects.ups ++ ups_in s (path_step s w event).path events
