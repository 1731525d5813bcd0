-- Each event of a path that drains leaves room.

use Rattle.std.proofs.Common.{arith, ◌≡◌, ℕ, Bool, true, false, List, [], ◌∷◌, ◌++◌, map, Option}
use Rattle.std.proofs.Common.{Some, Ok, sym, ◌∙◌, subst, nat_lt, if◌then◌else◌}
use Rattle.std.specs.List.{AllByRecursion, slice_get}
use Rattle.ltp_session.specs.Engine.{UpValue}
use Rattle.ltp_session.specs.World.{End, Sent, run}
use Rattle.ltp_laws.specs.View.{IsIn}
use Rattle.ltp_laws.proofs.ListLemmas.{all-append}
use Rattle.ltp_laws.proofs.RunLemmas.{in-left}
use Rattle.ltp_drain.specs.Draining.{Oldest, oldest}
use Rattle.ltp_drain.specs.Hopeful.{Room}
use Rattle.gate_cases.specs.declared.face.Face.{Face}
use Rattle.gate_cases.specs.declared.face.Face.TheVariants as faces
use Rattle.gateway_core.specs.Gate.{and_then, arrives_at, at_face, does_at, hears_at, in_turn}
use Rattle.gateway_core.specs.Gate.{passes_at, ticks_gate, up_at}
use Rattle.path_laws.specs.declared.places.Place.{Place}
use Rattle.path_laws.specs.declared.places.Place.TheVariants as places
use Rattle.path_laws.specs.Links.{first_on, link_at, link_parties, submit_of, submits_on}
use Rattle.path_laws.specs.Log.{Begun, begun_at}
use Rattle.path_laws.specs.Path.{Path, PathEvent, PathSetup, PathStep, SentFrom, all_tick}
use Rattle.path_laws.specs.Path.{at_path_end, gate_up, clock_shows, comes_to, delivers}
use Rattle.path_laws.specs.Path.{delivers_if, nothing_done, path_step, sends, then_does}
use Rattle.path_laws.specs.Places.{across, at_gate, at_node, end_of, if_link, link_end_of}
use Rattle.path_laws.specs.Places.{link_of, node_place, on_link, stand_of}
use Rattle.path_laws.proofs.ChunkLemmas.{run-append}
use Rattle.path_laws.proofs.RunLemmas.{step-chunk}
use Rattle.path_drain.specs.RoomKept.{IsRoomyPath, IsRoomyThrough, MayFollow, PathStands}
use Rattle.path_drain.specs.RoomKept.{RoomIsKept}
use Rattle.path_drain.specs.Owing.{RoomOwing, none_owed}
use Rattle.path_drain.proofs.CaseNotes.{make-in}
use Rattle.path_drain.proofs.PathNotes.{PlaceFine, both-fine, engine-fine, gate-fine, node-fine}
use Rattle.path_drain.proofs.PathNotes.{none-for_room, storage-long, unreported-late, ups-fine}
use Rattle.path_drain.proofs.RoomSteps.{arrives-room, clock-reds, clock-room, gate_end, gate-form}
use Rattle.path_drain.proofs.RoomSteps.{heard-room, heard_path, node_end, node-form, node-reds}
use Rattle.path_drain.proofs.RoomSteps.{node-room}
use Rattle.path_drain.proofs.RoomBack.{AreSubmits, roomy-through}
use Rattle.path_drain.proofs.RoomNotes.{arrival-notes, tick-notes_room}
use Rattle.path_drain.proofs.RoomOwed.{room-ends, room-on_link}

-- ---- room after each block

are-submits : (face : Face) (begun : List Begun) → AreSubmits (submits_on face begun)
unfolding on_link
are-submits face [] = tt
are-submits face (b ∷ begun) = by face (link_of b.place) (are-submits face begun)
  where
    by : (face at : Face) → AreSubmits (submits_on face begun)
        → AreSubmits (if_link face at (submit_of b) ++ submits_on face begun)
    by faces.Old faces.Old rest = rest
    by faces.Old faces.New rest = rest
    by faces.New faces.Old rest = rest
    by faces.New faces.New rest = rest

through-event : (s : PathSetup) (w : Path) (event : PathEvent)
    → RoomOwing s (path_step s w event).path none_owed → (face : Face)
    → IsRoomyThrough (link_parties s face)
    (run (link_parties s face) (link_at face w) (first_on face w event))
    (submits_on face (begun_at s w event))
through-event s w event room face =
    roomy-through (link_parties s face)
    (run (link_parties s face) (link_at face w) (first_on face w event))
    (submits_on face (begun_at s w event)) (are-submits face (begun_at s w event))
    (subst Room ((step-chunk face s w event).runs
    ∙ run-append (link_parties s face) (link_at face w) (first_on face w event)
    (submits_on face (begun_at s w event)))
    (room-on_link s (path_step s w event).path none_owed room face))

-- what a step leaves: room, and notes that are right
record StepLeaves (s : PathSetup) (now : ℕ) (step : PathStep) : Type 0 where
  kept : IsRoomyPath s step.path
  noted : AllByRecursion (PlaceFine s step.effects.ups now step.path.gate.counter)
      step.effects.notes

-- ---- a segment that comes to a place

gate-leaves : (s : PathSetup) (w : Path) (new : Face → List Sent) (rank : Face → End → ℕ → ℕ)
    (at : Face) (o : Oldest) → PathStands s w new rank → IsRoomyPath s w
    → oldest (node_end at) (new at) ≡ Some o
    → StepLeaves s w.now (comes_to s w (at_gate at) (o.first).segment)
unfolding arrives_at and_then
gate-leaves s w new rank at o stands roomy is = record {
  kept = record { room = arrives-room s w new rank at o stands roomy is; reds = roomy.reds };
  noted = gate-fine s at ups _ w.now _ within _ (both-fine s at ups w.now _ _ _
      (engine-fine s at ups w.now _ at _ (arrival-notes (at_face s.gate.parties at)
      (at_face w.gate.engines at) _ (o.first).segment w.now
      (gate-form s w new rank at o stands roomy.room is)))
      (ups-fine s (heard_path s w at (o.first).segment) at ups _ ups (λ up among. among)
      (heard-room s w new rank at o stands roomy is) (omega arith)));
}
  where
    ups : List UpValue
    ups = (hears_at s.gate at w.gate (Ok (o.first).segment) w.now).effects.ups

    within : (up : UpValue)
        → IsIn up (hears_at s.gate at w.gate (Ok (o.first).segment) w.now).effects.ups
        → IsIn (gate_up (up_at at up)) (map gate_up (map (up_at at)
        (hears_at s.gate at w.gate (Ok (o.first).segment) w.now).effects.ups
        ++ (in_turn (passes_at s.gate at w.now)
        (hears_at s.gate at w.gate (Ok (o.first).segment) w.now).effects.ups
        (does_at at w.gate (hears_at s.gate at w.gate (Ok (o.first).segment) w.now)).gate
        ).effects.ups))
    within up among = make-in gate_up _ (up_at at up)
        (in-left (up_at at up) _ _ (make-in (up_at at) _ up among))

node-leaves : (s : PathSetup) (w : Path) (new : Face → List Sent) (rank : Face → End → ℕ → ℕ)
    (at : Face) (o : Oldest) → PathStands s w new rank → IsRoomyPath s w
    → oldest (gate_end at) (new at) ≡ Some o
    → StepLeaves s w.now (comes_to s w (at_node (end_of at)) (o.first).segment)
node-leaves s w new rank at o stands roomy is = record {
  kept = record {
    room = node-room s w new rank at o stands roomy.room is;
    reds = node-reds s w new rank at o stands roomy is;
  };
  noted = node-fine s _ w.now _ (node_place (end_of at)) _
      (arrival-notes (at_path_end s.nodes (end_of at)) (at_path_end w.nodes (end_of at)) _
      (o.first).segment w.now (node-form s w new rank at o stands roomy.room is));
}

come-leaves : (s : PathSetup) (w : Path) (new : Face → List Sent) (rank : Face → End → ℕ → ℕ)
    (from : Place) (o : Oldest) → PathStands s w new rank → IsRoomyPath s w
    → oldest (link_end_of from) (new (link_of from)) ≡ Some o
    → StepLeaves s w.now (comes_to s w (stand_of (across from)) (o.first).segment)
come-leaves s w new rank places.OldNode o stands roomy is =
    gate-leaves s w new rank faces.Old o stands roomy is
come-leaves s w new rank places.OldFace o stands roomy is =
    node-leaves s w new rank faces.Old o stands roomy is
come-leaves s w new rank places.NewFace o stands roomy is =
    node-leaves s w new rank faces.New o stands roomy is
come-leaves s w new rank places.NewNode o stands roomy is =
    gate-leaves s w new rank faces.New o stands roomy is

-- ---- events

-- the notes of a clock
clock-noted : (s : PathSetup) (w : Path) (now before : ℕ)
    → AllByRecursion (PlaceFine s (all_tick s now w).effects.ups before
    (all_tick s now w).path.gate.counter) (all_tick s now w).effects.notes
unfolding then_does ticks_gate and_then
clock-noted s w now before =
    all-append (PlaceFine s _ before w.gate.counter) _ _
    (node-fine s _ before _ places.OldNode _ (tick-notes_room s.nodes.0 w.nodes.0 now))
    (all-append (PlaceFine s _ before w.gate.counter) _ _
    (gate-fine s faces.Old [] _ before _ (λ up among. absurd among) _
    (both-fine s faces.Old [] before w.gate.counter _ _
    (engine-fine s faces.Old [] before w.gate.counter faces.Old _
    (tick-notes_room s.gate.parties.0 w.gate.engines.0 now))
    (engine-fine s faces.Old [] before w.gate.counter faces.New _
    (tick-notes_room s.gate.parties.1 w.gate.engines.1 now))))
    (node-fine s _ before _ places.NewNode _ (tick-notes_room s.nodes.1 w.nodes.1 now)))

event-leaves : (s : PathSetup) (w : Path) (new : Face → List Sent) (rank : Face → End → ℕ → ℕ)
    (event : PathEvent) → PathStands s w new rank → IsRoomyPath s w
    → MayFollow w new event → StepLeaves s w.now (path_step s w event)
unfolding path_step
event-leaves s w new rank (sends end block) stands roomy may = absurd may
event-leaves s w new rank (delivers k) stands roomy (d, o, got, is, same) =
    by (slice_get w.sent k) got
  where
    leaves : StepLeaves s w.now (comes_to s w (stand_of (across d.from)) d.segment)
    leaves = subst (λ (x : Sent). StepLeaves s w.now
        (comes_to s w (stand_of (across d.from)) x.segment)) same
        (come-leaves s w new rank d.from o stands roomy is)

    by : (x : Option SentFrom) → x ≡ Some d → StepLeaves s w.now (delivers_if s w x)
    by x is_d = subst (λ x. StepLeaves s w.now (delivers_if s w x)) (sym is_d)
        (record { kept = leaves.kept; noted = leaves.noted })
event-leaves s w new rank (clock_shows now) stands roomy none = by (nat_lt now w.now)
  where
    by : (t : Bool) → StepLeaves s w.now (if t then record { path = w; effects = nothing_done }
        else all_tick s now w)
    by true = record { kept = roomy; noted = tt }
    by false = record {
      kept = record {
        room = clock-room s w new rank now stands roomy.room none;
        reds = clock-reds s w new rank now stands roomy.reds;
      };
      noted = clock-noted s w now w.now;
    }

pub room-kept : RoomIsKept
room-kept s w new rank event stands roomy may =
    let leaves = event-leaves s w new rank event stands roomy may in record {
      room = room-ends s (path_step s w event).path (leaves.kept).room;
      kept = leaves.kept;
      through = through-event s w event (leaves.kept).room;
      noted = none-for_room s _ w.now _ _ leaves.noted;
      storage = storage-long s _ w.now _ _ leaves.noted;
      unreported = unreported-late s _ w.now _ _ leaves.noted;
    }
