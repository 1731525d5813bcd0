-- Room on a path, from one of its states to the next.

use Rattle.std.proofs.Common.{◌≡◌, ℕ, ◌+◌, ◌^◌, ◌<◌, ◌≤◌, List, length, Result, Ok, Err, ◌⊎◌, sym}
use Rattle.std.proofs.Common.{◌∙◌, ap, arith, subst}
use Rattle.ltp_session.specs.Engine.{Engine, EngineStep, SubmitFault, block_empty}
use Rattle.ltp_session.specs.Engine.{block_too_large}
use Rattle.ltp_session.specs.Step.{StepValue}
use Rattle.ltp_session.specs.Sender.{Sending}
use Rattle.ltp_drain.specs.Hopeful.{Room}
use Rattle.ltp_drain.proofs.RoomSteps.{NoMore, same-need}
use Rattle.gate_cases.specs.declared.face.Face.{Face}
use Rattle.gate_cases.specs.declared.face.Face.TheVariants as faces
use Rattle.gateway_core.specs.Gate.{at_face, sends_at, sends_unless, submission_at, with_face}
use Rattle.path_laws.specs.Links.{link_at}
use Rattle.path_laws.specs.Path.{Path, PathSetup, gate_does, with_path_end}
use Rattle.path_laws.specs.Places.{end_of}
use Rattle.path_drain.specs.OnTheWay.{gate_at, node_at, will_begin}
use Rattle.path_drain.specs.PathRoom.{HasRoomFor, PathRoom}
use Rattle.path_drain.specs.Owing.{OwedHavePlace, RoomOwing, RoomStarts, SubmitsAreOwed, none_owed}
use Rattle.path_drain.specs.Owing.{one_at}
use Rattle.path_drain.proofs.CountSteps.{link-room, room-left}
use Rattle.path_drain.proofs.SubmitSteps.{Submitted, is_accepted, is_refused, own-begun}
use Rattle.path_drain.proofs.SubmitSteps.{peer-begun, submitted-is, with_begun}

-- ---- at the beginning, and at the end

-- between two events there is room on the path; and there are numbers enough where each face has
-- 64 left
pub room-starts : RoomStarts
room-starts s w room numbers = record {
  nodes = λ face. room-left 0 0 (will_begin s w face) (will_begin s w face + 0) (node_at w face)
      (gate_at w face) (node_at w face) (gate_at w face)
      (same-need (node_at w face) (gate_at w face)) (omega arith) (omega arith) (room.nodes face);
  faces = λ face. room-left (will_begin s w face) (will_begin s w face + 0) 0 0 (gate_at w face)
      (node_at w face) (gate_at w face) (node_at w face)
      (same-need (gate_at w face) (node_at w face)) (omega arith) (omega arith) (room.faces face);
  numbers = λ face. omega (arith, numbers face, (room.faces face).senders);
}

pub room-ends : (s : PathSetup) (w : Path) → RoomOwing s w none_owed → PathRoom s w
room-ends s w room = record {
  nodes = λ face. room-left 0 0 (will_begin s w face + 0) (will_begin s w face) (node_at w face)
      (gate_at w face) (node_at w face) (gate_at w face)
      (same-need (node_at w face) (gate_at w face)) (omega arith) (omega arith) (room.nodes face);
  faces = λ face. room-left (will_begin s w face + 0) (will_begin s w face) 0 0 (gate_at w face)
      (node_at w face) (gate_at w face) (node_at w face)
      (same-need (gate_at w face) (node_at w face)) (omega arith) (omega arith) (room.faces face);
}

-- each link has room then
pub room-on_link : (s : PathSetup) (w : Path) (owed : Face → ℕ) → RoomOwing s w owed
    → (face : Face) → Room (link_at face w)
room-on_link s w owed room faces.Old = record {
  first = link-room _ _ w.nodes.0 w.gate.engines.0 (room.nodes faces.Old);
  second = link-room _ _ w.gate.engines.0 w.nodes.0 (room.faces faces.Old);
}
room-on_link s w owed room faces.New = record {
  first = link-room _ _ w.gate.engines.1 w.nodes.1 (room.faces faces.New);
  second = link-room _ _ w.nodes.1 w.gate.engines.1 (room.nodes faces.New);
}

-- ---- a step that begins nothing

pub room-step : (s : PathSetup) (w w' : Path) (owed owed' : Face → ℕ)
    → ((face : Face) → NoMore (node_at w face) (gate_at w face) (node_at w' face) (gate_at w' face))
    → ((face : Face) → NoMore (gate_at w face) (node_at w face) (gate_at w' face) (node_at w' face))
    → ((face : Face) → will_begin s w' face + owed' face ≤ will_begin s w face + owed face)
    → ((face : Face) → (gate_at w' face).next ≤ (gate_at w face).next)
    → RoomOwing s w owed → RoomOwing s w' owed'
room-step s w w' owed owed' nodes faces most next room = record {
  nodes = λ face. room-left 0 0 (will_begin s w face + owed face)
      (will_begin s w' face + owed' face) (node_at w face) (gate_at w face) (node_at w' face)
      (gate_at w' face) (nodes face) (omega arith) (most face) (room.nodes face);
  faces = λ face. room-left (will_begin s w face + owed face)
      (will_begin s w' face + owed' face) 0 0 (gate_at w face) (node_at w face) (gate_at w' face)
      (node_at w' face) (faces face) (most face) (omega arith) (room.faces face);
  numbers = λ face. omega (arith, room.numbers face, most face, next face);
}

pub room-fewer : (s : PathSetup) (w : Path) (owed owed' : Face → ℕ)
    → ((face : Face) → owed' face ≤ owed face) → RoomOwing s w owed → RoomOwing s w owed'
room-fewer s w owed owed' most room = room-step s w w owed owed'
    (λ face. same-need (node_at w face) (gate_at w face))
    (λ face. same-need (gate_at w face) (node_at w face)) (λ face. omega (arith, most face))
    (λ face. omega arith) room

-- ---- a block is submitted

as-it-is : (own own' peer peer' : ℕ) (e f : Engine) → own' ≤ own → peer' ≤ peer
    → HasRoomFor own peer e f → HasRoomFor own' peer' e f
as-it-is own own' peer peer' e f mine yours room =
    room-left own own' peer peer' e f e f (same-need e f) mine yours room

-- a path with another engine at a face, and at a node
abbrev pub with_gate : Path → Face → Engine → Path
with_gate w at e = record w { gate = record w.gate { engines = with_face w.gate.engines at e } }

abbrev pub with_node : Path → Face → Engine → Path
with_node w at e = record w { nodes = with_path_end w.nodes (end_of at) e }

-- a session more at a face
begun-room : (s : PathSetup) (w : Path) (at : Face) (t : StepValue Sending)
    (owed owed' : Face → ℕ) → ((face : Face) → owed' face + one_at at face ≤ owed face)
    → RoomOwing s w owed → RoomOwing s (with_gate w at (with_begun (gate_at w at) t)) owed'
begun-room s w at t owed owed' less room = record {
  nodes = nodes at less;
  faces = by_face at less;
  numbers = numbers at less;
}
  where
    nodes : (at : Face) → ((face : Face) → owed' face + one_at at face ≤ owed face)
        → (face : Face)
        → HasRoomFor 0
        (will_begin s (with_gate w at (with_begun (gate_at w at) t)) face + owed' face)
        (node_at (with_gate w at (with_begun (gate_at w at) t)) face)
        (gate_at (with_gate w at (with_begun (gate_at w at) t)) face)
    nodes faces.Old less faces.Old = peer-begun 0 0 _ _ w.gate.engines.0 w.nodes.0 t (omega arith)
        (omega (arith, less faces.Old)) (room.nodes faces.Old)
    nodes faces.Old less faces.New = as-it-is 0 0 _ _ w.nodes.1 w.gate.engines.1 (omega arith)
        (omega (arith, less faces.New)) (room.nodes faces.New)
    nodes faces.New less faces.Old = as-it-is 0 0 _ _ w.nodes.0 w.gate.engines.0 (omega arith)
        (omega (arith, less faces.Old)) (room.nodes faces.Old)
    nodes faces.New less faces.New = peer-begun 0 0 _ _ w.gate.engines.1 w.nodes.1 t (omega arith)
        (omega (arith, less faces.New)) (room.nodes faces.New)

    by_face : (at : Face) → ((face : Face) → owed' face + one_at at face ≤ owed face)
        → (face : Face)
        → HasRoomFor (will_begin s (with_gate w at (with_begun (gate_at w at) t)) face + owed' face)
        0 (gate_at (with_gate w at (with_begun (gate_at w at) t)) face)
        (node_at (with_gate w at (with_begun (gate_at w at) t)) face)
    by_face faces.Old less faces.Old = own-begun _ _ 0 0 w.gate.engines.0 w.nodes.0 t
        (omega (arith, less faces.Old)) (omega arith) (room.faces faces.Old)
    by_face faces.Old less faces.New = as-it-is _ _ 0 0 w.gate.engines.1 w.nodes.1
        (omega (arith, less faces.New)) (omega arith) (room.faces faces.New)
    by_face faces.New less faces.Old = as-it-is _ _ 0 0 w.gate.engines.0 w.nodes.0
        (omega (arith, less faces.Old)) (omega arith) (room.faces faces.Old)
    by_face faces.New less faces.New = own-begun _ _ 0 0 w.gate.engines.1 w.nodes.1 t
        (omega (arith, less faces.New)) (omega arith) (room.faces faces.New)

    numbers : (at : Face) → ((face : Face) → owed' face + one_at at face ≤ owed face)
        → (face : Face)
        → (gate_at (with_gate w at (with_begun (gate_at w at) t)) face).next
        + (will_begin s (with_gate w at (with_begun (gate_at w at) t)) face + owed' face) ≤ 2 ^ 32
    numbers faces.Old less faces.Old = omega (arith, room.numbers faces.Old, less faces.Old)
    numbers faces.Old less faces.New = omega (arith, room.numbers faces.New, less faces.New)
    numbers faces.New less faces.Old = omega (arith, room.numbers faces.Old, less faces.Old)
    numbers faces.New less faces.New = omega (arith, room.numbers faces.New, less faces.New)

-- ---- a block that is submitted where there is a place for it

-- there is a place at a face for a session that is owed there
place-at : (s : PathSetup) (w : Path) (at : Face) (owed : Face → ℕ)
    → 64 ≤ (at_face s.gate.parties at).sessions → 1 ≤ owed at → RoomOwing s w owed
    → (length (gate_at w at).senders < (at_face s.gate.parties at).sessions)
    × ((gate_at w at).next < 2 ^ 32)
place-at s w at owed ample some room =
    (omega (arith, ample, (room.faces at).senders, some), omega (arith, room.numbers at, some))

submission-is : (s : PathSetup) (w : Path) (at : Face) (block : List ℕ)
    → Submitted (at_face s.gate.parties at) (gate_at w at)
    (submission_at s.gate at w.now block w.gate)
submission-is s w at block =
    submitted-is (at_face s.gate.parties at) (gate_at w at) block (length block) w.now

abbrev ok_step : EngineStep → Result EngineStep SubmitFault
ok_step step = Ok step

abbrev err_fault : SubmitFault → Result EngineStep SubmitFault
err_fault fault = Err fault

err-same : (x y : SubmitFault) → err_fault x ≡ err_fault y → x ≡ y
err-same x y is = cc

ok-same : (x y : EngineStep) → ok_step x ≡ ok_step y → x ≡ y
ok-same x y is = cc

-- one that is owed is owed no more, once it is submitted
pub room-submitted : SubmitsAreOwed
unfolding sends_at
room-submitted s w at block owed owed' less room =
    by (submission_at s.gate at w.now block w.gate) (submission-is s w at block)
  where
    fewer : RoomOwing s w owed'
    fewer = room-fewer s w owed owed' (λ face. omega (arith, less face)) room

    begun_with : (step : EngineStep) (t : StepValue Sending)
        → step.engine ≡ with_begun (gate_at w at) t
        → RoomOwing s (with_gate w at step.engine) owed'
    begun_with step t is = subst (λ (e : Engine). RoomOwing s (with_gate w at e) owed') (sym is)
        (begun-room s w at t owed owed' less room)

    by : (r : Result EngineStep SubmitFault)
        → Submitted (at_face s.gate.parties at) (gate_at w at) r
        → RoomOwing s (gate_does w (sends_unless at w.gate r)).path owed'
    by (Err fault) submitted =
        record { nodes = fewer.nodes; faces = fewer.faces; numbers = fewer.numbers }
    by (Ok step) (is_refused fault is why) = absurd (cc)
    by (Ok step) (is_accepted t other_step is engine) =
        let same : step ≡ other_step = ok-same step other_step is in
        let left = begun_with step t (ap (λ (x : EngineStep). x.engine) same ∙ engine) in
        record { nodes = left.nodes; faces = left.faces; numbers = left.numbers }

pub owed-place : OwedHavePlace
owed-place s w at block owed fault ample room some is = by (submission-is s w at block)
  where
    place : (length (gate_at w at).senders < (at_face s.gate.parties at).sessions)
        × ((gate_at w at).next < 2 ^ 32)
    place = place-at s w at owed ample some room

    by : Submitted (at_face s.gate.parties at) (gate_at w at)
        (submission_at s.gate at w.now block w.gate)
        → (fault ≡ block_empty) ⊎ (fault ≡ block_too_large)
    by (is_refused other_fault refused why) =
        subst (λ f. (f ≡ block_empty) ⊎ (f ≡ block_too_large))
        (sym (err-same fault other_fault (sym is ∙ refused))) (why place.0 place.1)
    by (is_accepted t step accepted engine) = absurd (let h = sym is ∙ accepted in cc)
