-- An event of a path that drains keeps room.

use Rattle.std.proofs.Common.{◌≡◌, ℕ, ◌+◌, ◌≤◌, List, [], length, Option, None, Some, Ok, refl}
use Rattle.std.proofs.Common.{sym, ◌∙◌, ap, arith, subst}
use Rattle.std.specs.Option.{option_map}
use Rattle.ltp_segment.specs.Values.{SegmentValue}
use Rattle.ltp_session.specs.Engine.{Engine, Party, Reply, UpValue, arrives, datagram_step}
use Rattle.ltp_session.specs.Engine.{list_of, replied_or_stranger, tick_engine, tick_step}
use Rattle.ltp_session.specs.Table.{AreAscending}
use Rattle.ltp_session.specs.World.{End, Sent, first_end, second_end}
use Rattle.ltp_laws.specs.HandUps.{up_of}
use Rattle.ltp_laws.proofs.FrameLemmas.{next-with_receiver}
use Rattle.ltp_laws.proofs.RunLemmas.{linked-at, two_ends}
use Rattle.ltp_drain.specs.Draining.{Oldest, oldest}
use Rattle.ltp_drain.proofs.RoomRuns.{room-roomy}
use Rattle.ltp_drain.proofs.RoomSteps.{NoMore, same-need}
use Rattle.gate_cases.specs.declared.face.Face.{Face}
use Rattle.gate_cases.specs.declared.face.Face.TheVariants as faces
use Rattle.gate_cases.specs.Faces.{other_of}
use Rattle.gateway_core.specs.Gate.{and_then, arrives_at, at_face, does_at, hears_at, ticks_gate}
use Rattle.path_laws.specs.Links.{link_at, link_parties}
use Rattle.path_laws.specs.Path.{Path, PathSetup, all_tick, at_path_end, gate_does, node_does}
use Rattle.path_laws.specs.Path.{then_does}
use Rattle.path_laws.specs.Places.{end_of}
use Rattle.path_drain.specs.OnTheWay.{gate_at, node_at, piece_count, report_count, sum_on_way}
use Rattle.path_drain.specs.OnTheWay.{will_begin}
use Rattle.path_drain.specs.Owing.{RoomOwing, none_owed}
use Rattle.path_drain.specs.RoomKept.{IsRoomyPath, PathStands, SendsRed}
use Rattle.path_drain.proofs.Arrivals.{Arrived, LinkDrains, by_receiver, by_sender, unheard}
use Rattle.path_drain.proofs.LinkArrivals.{arrival-form}
use Rattle.path_drain.proofs.ArrivalSums.{Needs, arrived-needs, arrived-sent, arrived-way, counted}
use Rattle.path_drain.proofs.ArrivalSums.{arrived-red, engine_after}
use Rattle.path_drain.proofs.GateSteps.{owing, owing-most, pieces_owed, ups-room}
use Rattle.path_drain.proofs.RoomOwed.{room-on_link, room-step, with_gate, with_node}
use Rattle.path_drain.proofs.RunFacts.{kept-unclosed}
use Rattle.path_drain.proofs.TickSums.{ticked-red, ticked-way, ticks-need}

-- ---- a link of the path

-- each link is in a drain that has room
pub link-drains : (s : PathSetup) (w : Path) (new : Face → List Sent) (rank : Face → End → ℕ → ℕ)
    (owed : Face → ℕ) → PathStands s w new rank → RoomOwing s w owed → (face : Face)
    → LinkDrains (link_parties s face) (record { world = link_at face w; new = new face })
    (rank face)
link-drains s w new rank owed stands room face = record {
  peers = stands.peers face;
  holds = stands.holds face;
  room = room-roomy (link_parties s face) (link_at face w) (stands.ample face)
      (room-on_link s w owed room face);
  unclosed = kept-unclosed (link_parties s face) (link_at face w) (stands.peers face)
      (stands.reached face);
}

-- ---- what an engine does about a segment

next-after : (e f : Engine) (n : ℕ) (x : Option Reply) → Arrived e f n x
    → (engine_after e x).next ≡ e.next
next-after e f n x (unheard is) = ap (λ x. (engine_after e x).next) is
next-after e f n x (by_sender t is of room) = ap (λ x. (engine_after e x).next) is
next-after e f n x (by_receiver t is of stays_up ups room) =
    ap (λ x. (engine_after e x).next) is ∙ next-with_receiver e n t.next

-- its step is about its reply, or none
engine-is : (p : Party) (e : Engine) (segment : SegmentValue) (now : ℕ)
    → (datagram_step p e (Ok segment) now).engine ≡ engine_after e (arrives p e segment now)
unfolding datagram_step
engine-is p e segment now = by (arrives p e segment now)
  where
    by : (x : Option Reply)
        → (replied_or_stranger e (record { originator = segment.originator; number = segment.session })
        x).engine ≡ engine_after e x
    by None = refl
    by (Some r) = refl

-- the blocks that it hands up
record HandedBy (face : Face) (cut : ℕ) (ups : List UpValue) (up : Option (List ℕ)) : Type 0 where
  reports : length ups ≤ counted report_count up
  pieces : pieces_owed face cut ups ≤ counted (piece_count face cut) up

handed-by : (face : Face) (cut : ℕ) (p : Party) (e : Engine) (segment : SegmentValue) (now : ℕ)
    → HandedBy face cut (datagram_step p e (Ok segment) now).effects.ups
    (up_of (arrives p e segment now))
unfolding datagram_step
handed-by face cut p e segment now = by (arrives p e segment now)
  where
    by_up : (up : Option (List ℕ)) → HandedBy face cut
        (list_of (option_map (λ body. record { session = segment.session; body = body }) up)) up
    by_up None = record { reports = omega arith; pieces = omega arith }
    by_up (Some body) = record { reports = omega arith; pieces = omega arith }

    by : (x : Option Reply) → HandedBy face cut
        (replied_or_stranger e (record { originator = segment.originator; number = segment.session })
        x).effects.ups (up_of x)
    by None = record { reports = omega arith; pieces = omega arith }
    by (Some r) = by_up r.up

-- ---- a segment comes to a face

-- the path once the face's engine has heard it
abbrev pub heard_path : PathSetup → Path → Face → SegmentValue → Path
heard_path s w face segment =
    (gate_does w (does_at face w.gate (hears_at s.gate face w.gate (Ok segment) w.now))).path

-- another engine at a face, whose link needs no more room for it
gate-need : (w : Path) (at : Face) (e : Engine)
    → NoMore (node_at w at) (gate_at w at) (node_at w at) e → (face : Face)
    → NoMore (node_at w face) (gate_at w face) (node_at (with_gate w at e) face)
    (gate_at (with_gate w at e) face)
gate-need w faces.Old e need faces.Old = need
gate-need w faces.Old e need faces.New = same-need w.nodes.1 w.gate.engines.1
gate-need w faces.New e need faces.Old = same-need w.nodes.0 w.gate.engines.0
gate-need w faces.New e need faces.New = need

gate-need_peer : (w : Path) (at : Face) (e : Engine)
    → NoMore (gate_at w at) (node_at w at) e (node_at w at) → (face : Face)
    → NoMore (gate_at w face) (node_at w face) (gate_at (with_gate w at e) face)
    (node_at (with_gate w at e) face)
gate-need_peer w faces.Old e need faces.Old = need
gate-need_peer w faces.Old e need faces.New = same-need w.gate.engines.1 w.nodes.1
gate-need_peer w faces.New e need faces.Old = same-need w.gate.engines.0 w.nodes.0
gate-need_peer w faces.New e need faces.New = need

gate-next : (w : Path) (at : Face) (e : Engine) → e.next ≡ (gate_at w at).next → (face : Face)
    → (gate_at (with_gate w at e) face).next ≤ (gate_at w face).next
gate-next w faces.Old e same faces.Old = omega (arith, same)
gate-next w faces.Old e same faces.New = omega arith
gate-next w faces.New e same faces.Old = omega arith
gate-next w faces.New e same faces.New = omega (arith, same)

-- what came to it is on its way no more, and is owed
abbrev LessOnWay : (List ℕ → ℕ) → Path → Face → Engine → ℕ → Type 0
LessOnWay count w at e less =
    sum_on_way count e.receivers (node_at w at).senders + less
    ≤ sum_on_way count (gate_at w at).receivers (node_at w at).senders

gate-most : (s : PathSetup) (w : Path) (at : Face) (e : Engine) (own across : ℕ)
    (owed : Face → ℕ) → ((face : Face) → owed face ≤ owing at own across face)
    → LessOnWay report_count w at e own → LessOnWay (piece_count at s.gate.cut) w at e across
    → (face : Face)
    → will_begin s (with_gate w at e) face + owed face ≤ will_begin s w face + none_owed face
gate-most s w faces.Old e own across owed few reports pieces faces.Old =
    omega (arith, few faces.Old, reports)
gate-most s w faces.Old e own across owed few reports pieces faces.New =
    omega (arith, few faces.New, pieces)
gate-most s w faces.New e own across owed few reports pieces faces.Old =
    omega (arith, few faces.Old, pieces)
gate-most s w faces.New e own across owed few reports pieces faces.New =
    omega (arith, few faces.New, reports)

gate-heard : (s : PathSetup) (w : Path) (at : Face) (n : ℕ) (x : Option Reply)
    (owed : Face → ℕ) → Arrived (gate_at w at) (node_at w at) n x → SendsRed (node_at w at)
    → AreAscending 0 (gate_at w at).senders → AreAscending 0 (gate_at w at).receivers
    → ((face : Face) → owed face ≤ owing at (counted report_count (up_of x))
    (counted (piece_count at s.gate.cut) (up_of x)) face)
    → RoomOwing s w none_owed
    → RoomOwing s (with_gate w at (engine_after (gate_at w at) x)) owed
gate-heard s w at n x owed arrived red senders receivers few room =
    let e' : Engine = engine_after (gate_at w at) x in
    let needs : Needs (gate_at w at) (node_at w at) e' =
    arrived-needs (gate_at w at) (node_at w at) n x arrived senders receivers in
    room-step s w (with_gate w at e') none_owed owed (gate-need w at e' needs.1)
    (gate-need_peer w at e' needs.0)
    (gate-most s w at e' _ _ owed few
    (arrived-way report_count (gate_at w at) (node_at w at) n x arrived red)
    (arrived-way (piece_count at s.gate.cut) (gate_at w at) (node_at w at) n x arrived red))
    (gate-next w at e' (next-after (gate_at w at) (node_at w at) n x arrived)) room

-- which end of its link a face is
abbrev pub gate_end : Face → End
gate_end faces.Old = second_end
gate_end faces.New = first_end

abbrev pub node_end : Face → End
node_end faces.Old = first_end
node_end faces.New = second_end

-- the form of what the oldest of a node does at the face across
pub gate-form : (s : PathSetup) (w : Path) (new : Face → List Sent) (rank : Face → End → ℕ → ℕ)
    (at : Face) (o : Oldest) → PathStands s w new rank → RoomOwing s w none_owed
    → oldest (node_end at) (new at) ≡ Some o
    → Arrived (gate_at w at) (node_at w at) (o.first.segment).session
    (arrives (at_face s.gate.parties at) (gate_at w at) o.first.segment w.now)
gate-form s w new rank faces.Old o stands room is = arrival-form (link_parties s faces.Old) _ _
    second_end o (link-drains s w new rank none_owed stands room faces.Old) is
gate-form s w new rank faces.New o stands room is = arrival-form (link_parties s faces.New) _ _
    first_end o (link-drains s w new rank none_owed stands room faces.New) is

-- the form of what the oldest of a face does at the node across
pub node-form : (s : PathSetup) (w : Path) (new : Face → List Sent) (rank : Face → End → ℕ → ℕ)
    (at : Face) (o : Oldest) → PathStands s w new rank → RoomOwing s w none_owed
    → oldest (gate_end at) (new at) ≡ Some o
    → Arrived (node_at w at) (gate_at w at) (o.first.segment).session
    (arrives (at_path_end s.nodes (end_of at)) (node_at w at) o.first.segment w.now)
node-form s w new rank faces.Old o stands room is = arrival-form (link_parties s faces.Old) _ _
    first_end o (link-drains s w new rank none_owed stands room faces.Old) is
node-form s w new rank faces.New o stands room is = arrival-form (link_parties s faces.New) _ _
    second_end o (link-drains s w new rank none_owed stands room faces.New) is

ascending-at : (s : PathSetup) (w : Path) (new : Face → List Sent) (rank : Face → End → ℕ → ℕ)
    (at : Face) → PathStands s w new rank
    → (AreAscending 0 (gate_at w at).senders × AreAscending 0 (gate_at w at).receivers)
    × (AreAscending 0 (node_at w at).senders × AreAscending 0 (node_at w at).receivers)
ascending-at s w new rank faces.Old stands =
    let holds = stands.holds faces.Old in (
      (holds.senders second_end, holds.receivers second_end),
      (holds.senders first_end, holds.receivers first_end),
    )
ascending-at s w new rank faces.New stands =
    let holds = stands.holds faces.New in (
      (holds.senders first_end, holds.receivers first_end),
      (holds.senders second_end, holds.receivers second_end),
    )

-- once a face has heard a segment, room for what it handed up is owed
pub heard-room : (s : PathSetup) (w : Path) (new : Face → List Sent) (rank : Face → End → ℕ → ℕ)
    (at : Face) (o : Oldest) → PathStands s w new rank → IsRoomyPath s w
    → oldest (node_end at) (new at) ≡ Some o
    → RoomOwing s (heard_path s w at (o.first).segment)
    (owing at (length (hears_at s.gate at w.gate (Ok (o.first).segment) w.now).effects.ups)
    (pieces_owed at s.gate.cut
    (hears_at s.gate at w.gate (Ok (o.first).segment) w.now).effects.ups))
heard-room s w new rank at o stands roomy is =
    let few = handed-by at s.gate.cut (at_face s.gate.parties at) (gate_at w at) (o.first).segment
    w.now in
    let up = ascending-at s w new rank at stands in
    let left = gate-heard s w at (o.first.segment).session _ (owing at _ _)
    (gate-form s w new rank at o stands roomy.room is) (roomy.reds at) up.0.0 up.0.1
    (owing-most at _ _ _ _ few.reports few.pieces) roomy.room in
    let there = subst (λ (e : Engine). RoomOwing s (with_gate w at e)
    (owing at (length (hears_at s.gate at w.gate (Ok (o.first).segment) w.now).effects.ups)
    (pieces_owed at s.gate.cut
    (hears_at s.gate at w.gate (Ok (o.first).segment) w.now).effects.ups)))
    (sym (engine-is (at_face s.gate.parties at) (gate_at w at) (o.first).segment w.now)) left in
    record { nodes = there.nodes; faces = there.faces; numbers = there.numbers }

-- all that the gate does about a segment
pub arrives-room : (s : PathSetup) (w : Path) (new : Face → List Sent) (rank : Face → End → ℕ → ℕ)
    (at : Face) (o : Oldest) → PathStands s w new rank → IsRoomyPath s w
    → oldest (node_end at) (new at) ≡ Some o
    → RoomOwing s (gate_does w (arrives_at s.gate at (Ok (o.first).segment) w.now w.gate)).path
    none_owed
unfolding arrives_at and_then
arrives-room s w new rank at o stands roomy is =
    let left = ups-room s (heard_path s w at (o.first).segment) at
    (hears_at s.gate at w.gate (Ok (o.first).segment) w.now).effects.ups
    (heard-room s w new rank at o stands roomy is) in
    record { nodes = left.nodes; faces = left.faces; numbers = left.numbers }

-- ---- a segment comes to a node

-- another engine at a node, whose link needs no more room for it
node-need : (w : Path) (at : Face) (e : Engine)
    → NoMore (node_at w at) (gate_at w at) e (gate_at w at) → (face : Face)
    → NoMore (node_at w face) (gate_at w face) (node_at (with_node w at e) face)
    (gate_at (with_node w at e) face)
node-need w faces.Old e need faces.Old = need
node-need w faces.Old e need faces.New = same-need w.nodes.1 w.gate.engines.1
node-need w faces.New e need faces.Old = same-need w.nodes.0 w.gate.engines.0
node-need w faces.New e need faces.New = need

node-need_peer : (w : Path) (at : Face) (e : Engine)
    → NoMore (gate_at w at) (node_at w at) (gate_at w at) e → (face : Face)
    → NoMore (gate_at w face) (node_at w face) (gate_at (with_node w at e) face)
    (node_at (with_node w at e) face)
node-need_peer w faces.Old e need faces.Old = need
node-need_peer w faces.Old e need faces.New = same-need w.gate.engines.1 w.nodes.1
node-need_peer w faces.New e need faces.Old = same-need w.gate.engines.0 w.nodes.0
node-need_peer w faces.New e need faces.New = need

-- no more is on its way from it
abbrev NoMoreOnWay : (List ℕ → ℕ) → Path → Face → Engine → Type 0
NoMoreOnWay count w at e =
    sum_on_way count (gate_at w at).receivers e.senders
    ≤ sum_on_way count (gate_at w at).receivers (node_at w at).senders

node-most : (s : PathSetup) (w : Path) (at : Face) (e : Engine)
    → NoMoreOnWay report_count w at e → NoMoreOnWay (piece_count at s.gate.cut) w at e
    → (face : Face)
    → will_begin s (with_node w at e) face + none_owed face ≤ will_begin s w face + none_owed face
node-most s w faces.Old e reports pieces faces.Old = omega (arith, reports)
node-most s w faces.Old e reports pieces faces.New = omega (arith, pieces)
node-most s w faces.New e reports pieces faces.Old = omega (arith, pieces)
node-most s w faces.New e reports pieces faces.New = omega (arith, reports)

node-heard : (s : PathSetup) (w : Path) (at : Face) (n : ℕ) (x : Option Reply)
    → Arrived (node_at w at) (gate_at w at) n x
    → AreAscending 0 (node_at w at).senders → AreAscending 0 (node_at w at).receivers
    → RoomOwing s w none_owed
    → RoomOwing s (with_node w at (engine_after (node_at w at) x)) none_owed
node-heard s w at n x arrived senders receivers room =
    let e' : Engine = engine_after (node_at w at) x in
    let needs : Needs (node_at w at) (gate_at w at) e' =
    arrived-needs (node_at w at) (gate_at w at) n x arrived senders receivers in
    room-step s w (with_node w at e') none_owed none_owed (node-need w at e' needs.0)
    (node-need_peer w at e' needs.1)
    (node-most s w at e'
    (arrived-sent report_count (gate_at w at).receivers (node_at w at) (gate_at w at) n x arrived
    senders)
    (arrived-sent (piece_count at s.gate.cut) (gate_at w at).receivers (node_at w at)
    (gate_at w at) n x arrived senders))
    (λ face. omega arith) room

pub node-room : (s : PathSetup) (w : Path) (new : Face → List Sent) (rank : Face → End → ℕ → ℕ)
    (at : Face) (o : Oldest) → PathStands s w new rank → RoomOwing s w none_owed
    → oldest (gate_end at) (new at) ≡ Some o
    → RoomOwing s (node_does (end_of at) w (datagram_step (at_path_end s.nodes (end_of at))
    (at_path_end w.nodes (end_of at)) (Ok (o.first).segment) w.now)).path none_owed
node-room s w new rank at o stands room is =
    let up = ascending-at s w new rank at stands in
    let left = node-heard s w at (o.first.segment).session _
    (node-form s w new rank at o stands room is) up.1.0 up.1.1 room in
    let there = subst (λ (e : Engine). RoomOwing s (with_node w at e) none_owed)
    (sym (engine-is (at_path_end s.nodes (end_of at)) (node_at w at) (o.first).segment w.now))
    left in
    record { nodes = there.nodes; faces = there.faces; numbers = there.numbers }

-- blocks are all red at the nodes still
pub node-reds : (s : PathSetup) (w : Path) (new : Face → List Sent) (rank : Face → End → ℕ → ℕ)
    (at : Face) (o : Oldest) → PathStands s w new rank → IsRoomyPath s w
    → oldest (gate_end at) (new at) ≡ Some o → (face : Face)
    → SendsRed (node_at (node_does (end_of at) w (datagram_step (at_path_end s.nodes (end_of at))
    (at_path_end w.nodes (end_of at)) (Ok (o.first).segment) w.now)).path face)
node-reds s w new rank at o stands roomy is face = by at face own (roomy.reds face)
  where
    own : SendsRed (datagram_step (at_path_end s.nodes (end_of at))
        (at_path_end w.nodes (end_of at)) (Ok (o.first).segment) w.now).engine
    own = subst SendsRed
        (sym (engine-is (at_path_end s.nodes (end_of at)) (node_at w at) (o.first).segment w.now))
        (arrived-red (node_at w at) (gate_at w at) (o.first.segment).session _
        (node-form s w new rank at o stands roomy.room is) (roomy.reds at))

    by : (at face : Face)
        → SendsRed (datagram_step (at_path_end s.nodes (end_of at))
        (at_path_end w.nodes (end_of at)) (Ok (o.first).segment) w.now).engine
        → SendsRed (node_at w face)
        → SendsRed (node_at (node_does (end_of at) w (datagram_step
        (at_path_end s.nodes (end_of at)) (at_path_end w.nodes (end_of at))
        (Ok (o.first).segment) w.now)).path face)
    by faces.Old faces.Old new_red red = new_red
    by faces.Old faces.New new_red red = red
    by faces.New faces.Old new_red red = red
    by faces.New faces.New new_red red = new_red

-- ---- the clock

-- all engines of a path, once they ticked
abbrev ticked_path : PathSetup → Path → ℕ → Path
ticked_path s w now = record w {
  nodes = (tick_engine s.nodes.0 w.nodes.0 now, tick_engine s.nodes.1 w.nodes.1 now);
  gate = record w.gate {
    engines = (
      tick_engine s.gate.parties.0 w.gate.engines.0 now,
      tick_engine s.gate.parties.1 w.gate.engines.1 now,
    );
  };
}

pub clock-room : (s : PathSetup) (w : Path) (new : Face → List Sent) (rank : Face → End → ℕ → ℕ)
    (now : ℕ) → PathStands s w new rank → RoomOwing s w none_owed
    → ((face : Face) → new face ≡ []) → RoomOwing s (all_tick s now w).path none_owed
unfolding then_does ticks_gate and_then tick_step
clock-room s w new rank now stands room none =
    let left = room-step s w (ticked_path s w now) none_owed none_owed nodes by_face most next room
    in
    record { nodes = left.nodes; faces = left.faces; numbers = left.numbers }
  where
    nodes : (face : Face) → NoMore (node_at w face) (gate_at w face)
        (node_at (ticked_path s w now) face) (gate_at (ticked_path s w now) face)
    nodes faces.Old = ticks-need first_end second_end s.nodes.0 s.gate.parties.0 w.nodes.0
        w.gate.engines.0 now (two_ends first_end)
        (linked-at (link_parties s faces.Old) first_end (stands.peers faces.Old))
        ((stands.holds faces.Old).receivers first_end)
    nodes faces.New = ticks-need second_end first_end s.nodes.1 s.gate.parties.1 w.nodes.1
        w.gate.engines.1 now (two_ends second_end)
        (linked-at (link_parties s faces.New) second_end (stands.peers faces.New))
        ((stands.holds faces.New).receivers second_end)

    by_face : (face : Face) → NoMore (gate_at w face) (node_at w face)
        (gate_at (ticked_path s w now) face) (node_at (ticked_path s w now) face)
    by_face faces.Old = ticks-need second_end first_end s.gate.parties.0 s.nodes.0
        w.gate.engines.0 w.nodes.0 now (two_ends second_end)
        (linked-at (link_parties s faces.Old) second_end (stands.peers faces.Old))
        ((stands.holds faces.Old).receivers second_end)
    by_face faces.New = ticks-need first_end second_end s.gate.parties.1 s.nodes.1
        w.gate.engines.1 w.nodes.1 now (two_ends first_end)
        (linked-at (link_parties s faces.New) first_end (stands.peers faces.New))
        ((stands.holds faces.New).receivers first_end)

    way : (count : List ℕ → ℕ) (face : Face)
        → sum_on_way count (gate_at (ticked_path s w now) face).receivers
        (node_at (ticked_path s w now) face).senders
        ≤ sum_on_way count (gate_at w face).receivers (node_at w face).senders
    way count faces.Old = ticked-way count (link_parties s faces.Old) _ _ now second_end
        (stands.peers faces.Old) (stands.holds faces.Old) (none faces.Old)
    way count faces.New = ticked-way count (link_parties s faces.New) _ _ now first_end
        (stands.peers faces.New) (stands.holds faces.New) (none faces.New)

    most : (face : Face) → will_begin s (ticked_path s w now) face + none_owed face
        ≤ will_begin s w face + none_owed face
    most face = omega (
      arith,
      way (piece_count (other_of face) s.gate.cut) (other_of face),
      way report_count face,
    )

    next : (face : Face) → (gate_at (ticked_path s w now) face).next ≤ (gate_at w face).next
    next faces.Old = omega arith
    next faces.New = omega arith

pub clock-reds : (s : PathSetup) (w : Path) (new : Face → List Sent) (rank : Face → End → ℕ → ℕ)
    (now : ℕ) → PathStands s w new rank → ((face : Face) → SendsRed (node_at w face))
    → (face : Face) → SendsRed (node_at (all_tick s now w).path face)
unfolding then_does ticks_gate and_then tick_step
clock-reds s w new rank now stands reds faces.Old =
    ticked-red s.nodes.0 w.nodes.0 now ((stands.holds faces.Old).senders first_end) (reds faces.Old)
clock-reds s w new rank now stands reds faces.New =
    ticked-red s.nodes.1 w.nodes.1 now ((stands.holds faces.New).senders second_end)
    (reds faces.New)
