-- What the gate does about blocks that came whole keeps room: each piece and each report was
-- counted.

use Rattle.std.proofs.Common.{ℕ, suc, ◌+◌, ◌≤◌, Bool, true, false, List, [], ◌∷◌, length, Option}
use Rattle.std.proofs.Common.{None, Some, arith, if◌then◌else◌}
use Rattle.ltp_session.specs.Engine.{UpValue}
use Rattle.gate_cases.specs.declared.face.Face.{Face}
use Rattle.gate_cases.specs.declared.face.Face.TheVariants as faces
use Rattle.gate_cases.specs.declared.report.AskedReport.{AskedReport}
use Rattle.gate_cases.specs.Bundles.{status_bundle}
use Rattle.gate_cases.specs.Faces.{other_of}
use Rattle.gateway_core.specs.declared.note.GateNote.TheVariants as notes
use Rattle.gateway_core.specs.Gate.{and_then, answers_at, at_face, decides_at, in_turn}
use Rattle.gateway_core.specs.Gate.{is_unreported, judged_at, noted_at, passes_at, reports_at}
use Rattle.gateway_core.specs.Gate.{room_of, sends_at}
use Rattle.path_laws.specs.Path.{Path, PathSetup, gate_does}
use Rattle.path_drain.specs.OnTheWay.{piece_count}
use Rattle.path_drain.specs.Owing.{RoomOwing, none_owed, one_at}
use Rattle.path_drain.proofs.PieceCounts.{pieces-few}
use Rattle.path_drain.proofs.RoomOwed.{room-fewer, room-submitted}

-- so many sessions are owed at a face, and so many at the other
abbrev pub owing : Face → ℕ → ℕ → Face → ℕ
owing faces.Old own across faces.Old = own
owing faces.Old own across faces.New = across
owing faces.New own across faces.Old = across
owing faces.New own across faces.New = own

-- the pieces of blocks that came to a face
abbrev pub pieces_owed : Face → ℕ → List UpValue → ℕ
pieces_owed face cut [] = 0
pieces_owed face cut (up ∷ ups) = piece_count face cut up.body + pieces_owed face cut ups

pub owing-most : (at : Face) (own own' across across' : ℕ) → own' ≤ own → across' ≤ across
    → (face : Face) → owing at own' across' face ≤ owing at own across face
owing-most faces.Old own own' across across' mine theirs faces.Old = mine
owing-most faces.Old own own' across across' mine theirs faces.New = theirs
owing-most faces.New own own' across across' mine theirs faces.Old = theirs
owing-most faces.New own own' across across' mine theirs faces.New = mine

-- one less at the other face, and at this one
less-across : (at : Face) (own across across' : ℕ) → across' + 1 ≤ across → (face : Face)
    → owing at own across' face + one_at (other_of at) face ≤ owing at own across face
less-across faces.Old own across across' less faces.Old = omega arith
less-across faces.Old own across across' less faces.New = less
less-across faces.New own across across' less faces.Old = less
less-across faces.New own across across' less faces.New = omega arith

less-own : (at : Face) (own own' across : ℕ) → own' + 1 ≤ own → (face : Face)
    → owing at own' across face + one_at at face ≤ owing at own across face
less-own faces.Old own own' across less faces.Old = less
less-own faces.Old own own' across less faces.New = omega arith
less-own faces.New own own' across less faces.Old = omega arith
less-own faces.New own own' across less faces.New = less

-- ---- pieces

pub pieces-room : (s : PathSetup) (w : Path) (at : Face) (own k across : ℕ)
    (pieces : List (List ℕ)) → length pieces ≤ k → RoomOwing s w (owing at own (k + across))
    → RoomOwing s (gate_does w (in_turn (sends_at s.gate (other_of at) w.now) pieces w.gate)).path
    (owing at own across)
unfolding in_turn and_then
pieces-room s w at own k across [] few room =
    let left = room-fewer s w (owing at own (k + across)) (owing at own across)
    (owing-most at own own (k + across) across (omega arith) (omega arith)) room in
    record { nodes = left.nodes; faces = left.faces; numbers = left.numbers }
pieces-room s w at own k across (piece ∷ pieces) few room =
    let once = room-submitted s w (other_of at) piece (owing at own (k + across))
    (owing at own (length pieces + across))
    (less-across at own (k + across) (length pieces + across) (omega (arith, few))) room in
    let left = pieces-room s (gate_does w (sends_at s.gate (other_of at) w.now piece w.gate)).path at
    own (length pieces) across pieces (omega arith) once in
    record { nodes = left.nodes; faces = left.faces; numbers = left.numbers }

-- ---- a report

pub report-room : (s : PathSetup) (w : Path) (at : Face) (own across session : ℕ)
    (report : Option AskedReport) → RoomOwing s w (owing at (own + 1) across)
    → RoomOwing s (gate_does w (answers_at s.gate at w.now session report w.gate)).path
    (owing at own across)
unfolding answers_at and_then
report-room s w at own across session report room = by report
  where
    fewer : RoomOwing s w (owing at own across)
    fewer = room-fewer s w (owing at (own + 1) across) (owing at own across)
        (owing-most at (own + 1) own across across (omega arith) (omega arith)) room

    counted : Path
    counted = record w { gate = record w.gate { counter = w.gate.counter + 1 } }

    by_test : (asked : AskedReport) (t : Bool)
        → RoomOwing s (gate_does w (if t then noted_at at (notes.Unreported session) w.gate
        else reports_at s.gate at w.now session asked w.gate)).path (owing at own across)
    by_test asked true =
        record { nodes = fewer.nodes; faces = fewer.faces; numbers = fewer.numbers }
    by_test asked false =
        let left = room-submitted s counted at
        (status_bundle s.gate.gate w.gate.counter w.now asked) (owing at (own + 1) across)
        (owing at own across) (less-own at (own + 1) own across (omega arith))
        (record { nodes = room.nodes; faces = room.faces; numbers = room.numbers }) in
        record { nodes = left.nodes; faces = left.faces; numbers = left.numbers }

    by : (report : Option AskedReport)
        → RoomOwing s (gate_does w (answers_at s.gate at w.now session report w.gate)).path
        (owing at own across)
    by None = record { nodes = fewer.nodes; faces = fewer.faces; numbers = fewer.numbers }
    by (Some asked) = by_test asked (is_unreported at w.now w.gate)

-- ---- a block that came whole

pub passes-room : (s : PathSetup) (w : Path) (at : Face) (own across : ℕ) (up : UpValue)
    → RoomOwing s w (owing at (own + 1) (piece_count at s.gate.cut up.body + across))
    → RoomOwing s (gate_does w (passes_at s.gate at w.now up w.gate)).path (owing at own across)
unfolding decides_at and_then
passes-room s w at own across up room =
    let sent = pieces-room s w at (own + 1) (piece_count at s.gate.cut up.body) across
    (judged_at s.gate at w.now up.body w.gate).pieces
    (pieces-few at up.body w.now s.gate.cut (room_of (at_face w.gate.engines (other_of at)))) room in
    let left = report-room s (gate_does w (in_turn (sends_at s.gate (other_of at) w.now)
    (judged_at s.gate at w.now up.body w.gate).pieces w.gate)).path at own across up.session
    (judged_at s.gate at w.now up.body w.gate).report sent in
    record { nodes = left.nodes; faces = left.faces; numbers = left.numbers }

pub ups-room : (s : PathSetup) (w : Path) (at : Face) (ups : List UpValue)
    → RoomOwing s w (owing at (length ups) (pieces_owed at s.gate.cut ups))
    → RoomOwing s (gate_does w (in_turn (passes_at s.gate at w.now) ups w.gate)).path none_owed
unfolding in_turn and_then
ups-room s w at [] room =
    let left = room-fewer s w (owing at 0 0) none_owed (nothing at) room in
    record { nodes = left.nodes; faces = left.faces; numbers = left.numbers }
  where
    nothing : (at face : Face) → none_owed face ≤ owing at 0 0 face
    nothing faces.Old faces.Old = omega arith
    nothing faces.Old faces.New = omega arith
    nothing faces.New faces.Old = omega arith
    nothing faces.New faces.New = omega arith
ups-room s w at (up ∷ ups) room =
    let first = passes-room s w at (length ups) (pieces_owed at s.gate.cut ups) up
    (room-fewer s w (owing at (suc (length ups)) (pieces_owed at s.gate.cut (up ∷ ups)))
    (owing at (length ups + 1) (pieces_owed at s.gate.cut (up ∷ ups)))
    (owing-most at (suc (length ups)) (length ups + 1) _ _ (omega arith) (omega arith)) room) in
    let left = ups-room s (gate_does w (passes_at s.gate at w.now up w.gate)).path at ups first in
    record { nodes = left.nodes; faces = left.faces; numbers = left.numbers }
