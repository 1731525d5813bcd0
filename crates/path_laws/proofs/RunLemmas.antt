-- A run of a path, on each of its links.

use Rattle.std.proofs.Common.{◌≡◌, ℕ, zero, suc, Bool, true, false, List, [], ◌∷◌, ◌++◌, length, map, take, Option, None, Some, Result, Ok, Err, refl, sym, ◌∙◌, ap, arith, subst, nat_lt, if◌then◌else◌}
use Rattle.std.specs.List.{slice_get}
use Rattle.std.proofs.lemmas.Bool.Decides.{nat_tests}
use Rattle.ltp_session.specs.Engine.{tick_segments}
use Rattle.ltp_session.specs.Table.{ticked, ended}
use Rattle.ltp_segment.specs.Values.{SegmentValue}
use Rattle.ltp_session.specs.Engine.{Party, EngineStep, SubmitFault, datagram_step, tick_step, starts}
use Rattle.ltp_session.specs.World.{End, first_end, second_end, other, at_end, Event, happens, submit, deliver, clock, starts_world, ticks}
use Rattle.ltp_session.specs.World.{Sent as LinkSent}
use Rattle.ltp_laws.specs.Log.{hand_ups, submissions}
use Rattle.gate_cases.specs.declared.face.Face.{Face}
use Rattle.gate_cases.specs.declared.face.Face.TheVariants as faces
use Rattle.gate_cases.specs.Faces.{other_of}
use Rattle.gateway_core.specs.Gate.{GateStep, does_at, effects_at, hears_at, ticks_at, passes_at}
use Rattle.gateway_core.specs.Gate.{arrives_at, ticks_gate, and_then, in_turn}
use Rattle.path_laws.specs.declared.places.PathEnd.{PathEnd}
use Rattle.path_laws.specs.declared.places.PathEnd.TheVariants as ends
use Rattle.path_laws.specs.declared.places.Place.{Place}
use Rattle.path_laws.specs.declared.places.Place.TheVariants as places
use Rattle.path_laws.specs.Places.{face_of, node_place, across, link_of, if_link, on_link, at_gate, stand_of}
use Rattle.path_laws.specs.Path.{PathSetup, Path, PathStep, SentFrom, up_from, PathEvent, sends, delivers, clock_shows, at_path_end, node_does, gate_does, gate_effects, sends_block, sent_unless, comes_to, all_tick, then_does, nothing_done, delivers_if, path_step, path_run, starts_path}
use Rattle.path_laws.specs.Log.{a_send, Begun, begun_unless, come_begun, delivered_begun, begun_at, begun_in, ups_in}
use Rattle.path_laws.specs.Links.{link_parties, link_engines, link_sent, sent_on, link_at, submits_on, delivery_on, events_at, link_events}
use Rattle.path_laws.proofs.ChunkLemmas.{Chunk, chunk-none, chunk-then, place_at, ups_on, does_end, if-here, begun_as, sends-no-up, submit-chunk, deliver-chunk, clock-chunk, clock-stays}
use Rattle.path_laws.proofs.StepLemmas.{node_end, gate_end, either_face, ups-there, chunk-there, link-node-here, link-node-there, link-gate-here, link-gate-there, gate-ups, gate-path-then, gate-then, GateChunk, send-passed, chunk-as, begun-there}

-- ---- the k-th segment on its link

skip : {X : Type 0} (l ys zs : List X) (v : X) → slice_get ys (length zs) ≡ Some v → slice_get (l ++ ys) (length (l ++ zs)) ≡ Some v
skip [] ys zs v is = is
skip (x ∷ l) ys zs v is = skip l ys zs v is

pub got-on : (face : Face) (sent : List SentFrom) (k : ℕ) (d : SentFrom) → slice_get sent k ≡ Some d → link_of d.from ≡ face
    → slice_get (sent_on face sent) (length (sent_on face (take k sent))) ≡ Some (link_sent d)
unfolding on_link
got-on face [] k d is on = absurd (cc)
got-on face (x ∷ sent) zero d is on =
    let same : x ≡ d = cc in
    subst (λ (y : SentFrom). slice_get (if_link face (link_of y.from) (link_sent y) ++ sent_on face sent) 0 ≡ Some (link_sent d)) (sym same)
    (rw on (rw (if-here face (link_sent d)) refl))
got-on face (x ∷ sent) (suc k) d is on =
    skip (if_link face (link_of x.from) (link_sent x)) (sent_on face sent) (sent_on face (take k sent)) (link_sent d) (got-on face sent k d is on)

-- ---- a segment comes to a place

-- to a node
node-here : (end : PathEnd) (s : PathSetup) (w : Path) (k : ℕ) (d : LinkSent) → slice_get (sent_on (face_of end) w.sent) k ≡ Some d → other d.from ≡ node_end end
    → Chunk (face_of end) (link_parties s (face_of end)) (link_at (face_of end) w)
    (link_at (face_of end) (node_does end w (datagram_step (at_path_end s.nodes end) (at_path_end w.nodes end) (Ok d.segment) w.now)).path) (deliver k ∷ [])
    (map (up_from (node_place end)) (datagram_step (at_path_end s.nodes end) (at_path_end w.nodes end) (Ok d.segment) w.now).effects.ups) []
node-here ends.Old s w k d is from =
    subst (λ x. Chunk faces.Old (link_parties s faces.Old) (link_at faces.Old w) x (deliver k ∷ []) (map (up_from places.OldNode) (datagram_step s.nodes.0 w.nodes.0 (Ok d.segment) w.now).effects.ups) [])
    (sym (link-node-here ends.Old w (datagram_step s.nodes.0 w.nodes.0 (Ok d.segment) w.now)))
    (subst (λ end. Chunk faces.Old (link_parties s faces.Old) (link_at faces.Old w) (does_end (link_at faces.Old w) end (step end)) (deliver k ∷ []) (map (up_from (place_at faces.Old end)) (step end).effects.ups) []) from
    (deliver-chunk faces.Old (link_parties s faces.Old) (link_at faces.Old w) k d is))
  where
    step : End → EngineStep
    step end = datagram_step (at_end (link_parties s faces.Old) end) (at_end (link_engines w faces.Old) end) (Ok d.segment) w.now
node-here ends.New s w k d is from =
    subst (λ x. Chunk faces.New (link_parties s faces.New) (link_at faces.New w) x (deliver k ∷ []) (map (up_from places.NewNode) (datagram_step s.nodes.1 w.nodes.1 (Ok d.segment) w.now).effects.ups) [])
    (sym (link-node-here ends.New w (datagram_step s.nodes.1 w.nodes.1 (Ok d.segment) w.now)))
    (subst (λ end. Chunk faces.New (link_parties s faces.New) (link_at faces.New w) (does_end (link_at faces.New w) end (step end)) (deliver k ∷ []) (map (up_from (place_at faces.New end)) (step end).effects.ups) []) from
    (deliver-chunk faces.New (link_parties s faces.New) (link_at faces.New w) k d is))
  where
    step : End → EngineStep
    step end = datagram_step (at_end (link_parties s faces.New) end) (at_end (link_engines w faces.New) end) (Ok d.segment) w.now

node-there : (end : PathEnd) (s : PathSetup) (w : Path) (step : EngineStep)
    → Chunk (other_of (face_of end)) (link_parties s (other_of (face_of end))) (link_at (other_of (face_of end)) w)
    (link_at (other_of (face_of end)) (node_does end w step).path) [] (map (up_from (node_place end)) step.effects.ups) []
node-there ends.Old s w step = chunk-there faces.New (link_parties s faces.New) (link_at faces.New w) (link_at faces.New (node_does ends.Old w step).path) (map (up_from places.OldNode) step.effects.ups)
    (link-node-there ends.Old w step) (ups-there faces.Old first_end step.effects.ups)
node-there ends.New s w step = chunk-there faces.Old (link_parties s faces.Old) (link_at faces.Old w) (link_at faces.Old (node_does ends.New w step).path) (map (up_from places.NewNode) step.effects.ups)
    (link-node-there ends.New w step) (ups-there faces.New second_end step.effects.ups)

-- to a face
hear-here : (face : Face) (s : PathSetup) (w : Path) (k : ℕ) (d : LinkSent) → slice_get (sent_on face w.sent) k ≡ Some d → other d.from ≡ gate_end face
    → GateChunk face s w (does_at face w.gate (hears_at s.gate face w.gate (Ok d.segment) w.now)) (deliver k ∷ []) []
hear-here faces.Old s w k d is from =
    chunk-as faces.Old (link_parties s faces.Old) (link_at faces.Old w) (does_end (link_at faces.Old w) second_end (step second_end)) (link_at faces.Old (gate_does w (does_at faces.Old w.gate (step second_end))).path)
    (deliver k ∷ []) (map (up_from places.OldFace) (step second_end).effects.ups) (gate_effects (effects_at faces.Old (step second_end))).ups []
    (subst (λ end. Chunk faces.Old (link_parties s faces.Old) (link_at faces.Old w) (does_end (link_at faces.Old w) end (step end)) (deliver k ∷ []) (map (up_from (place_at faces.Old end)) (step end).effects.ups) []) from
    (deliver-chunk faces.Old (link_parties s faces.Old) (link_at faces.Old w) k d is))
    (link-gate-here faces.Old w (step second_end)) (gate-ups faces.Old (step second_end).effects.ups)
  where
    step : End → EngineStep
    step end = datagram_step (at_end (link_parties s faces.Old) end) (at_end (link_engines w faces.Old) end) (Ok d.segment) w.now
hear-here faces.New s w k d is from =
    chunk-as faces.New (link_parties s faces.New) (link_at faces.New w) (does_end (link_at faces.New w) first_end (step first_end)) (link_at faces.New (gate_does w (does_at faces.New w.gate (step first_end))).path)
    (deliver k ∷ []) (map (up_from places.NewFace) (step first_end).effects.ups) (gate_effects (effects_at faces.New (step first_end))).ups []
    (subst (λ end. Chunk faces.New (link_parties s faces.New) (link_at faces.New w) (does_end (link_at faces.New w) end (step end)) (deliver k ∷ []) (map (up_from (place_at faces.New end)) (step end).effects.ups) []) from
    (deliver-chunk faces.New (link_parties s faces.New) (link_at faces.New w) k d is))
    (link-gate-here faces.New w (step first_end)) (gate-ups faces.New (step first_end).effects.ups)
  where
    step : End → EngineStep
    step end = datagram_step (at_end (link_parties s faces.New) end) (at_end (link_engines w faces.New) end) (Ok d.segment) w.now

hear-there : (face : Face) (s : PathSetup) (w : Path) (step : EngineStep) → GateChunk (other_of face) s w (does_at face w.gate step) [] []
hear-there faces.Old s w step = chunk-there faces.New (link_parties s faces.New) (link_at faces.New w) (link_at faces.New (gate_does w (does_at faces.Old w.gate step)).path) (gate_effects (effects_at faces.Old step)).ups
    (link-gate-there faces.Old w step) (ap (λ us. ups_on faces.New us) (gate-ups faces.Old step.effects.ups) ∙ ups-there faces.Old second_end step.effects.ups)
hear-there faces.New s w step = chunk-there faces.Old (link_parties s faces.Old) (link_at faces.Old w) (link_at faces.Old (gate_does w (does_at faces.New w.gate step)).path) (gate_effects (effects_at faces.New step)).ups
    (link-gate-there faces.New w step) (ap (λ us. ups_on faces.Old us) (gate-ups faces.New step.effects.ups) ∙ ups-there faces.New first_end step.effects.ups)

-- a first event on a link, and then what comes of the blocks that are handed up
gate-arrives : (link : Face) (s : PathSetup) (w : Path) (face : Face) (segment : SegmentValue) (events : List Event)
    → GateChunk link s w (does_at face w.gate (hears_at s.gate face w.gate (Ok segment) w.now)) events []
    → GateChunk link s w (arrives_at s.gate face (Ok segment) w.now w.gate) (events ++ submits_on link (come_begun s w (at_gate face) segment)) (come_begun s w (at_gate face) segment)
unfolding arrives_at
gate-arrives link s w face segment events heard =
    gate-then link s w (does_at face w.gate heard_step) (in_turn (passes_at s.gate face w.now) heard_step.effects.ups) events
    (submits_on link (come_begun s w (at_gate face) segment)) [] (come_begun s w (at_gate face) segment) heard
    (send-passed link s (gate_does w (does_at face w.gate heard_step)).path face heard_step.effects.ups)
  where
    heard_step : EngineStep
    heard_step = hears_at s.gate face w.gate (Ok segment) w.now

-- ---- any event

-- what an event does on a link
abbrev pub StepChunk : Face → PathSetup → Path → PathStep → List Event → List Begun → Type 0
StepChunk face s w step events begun = Chunk face (link_parties s face) (link_at face w) (link_at face step.path) events step.effects.ups begun

abbrev ComeChunk : Face → PathSetup → Path → ℕ → SentFrom → Type 0
ComeChunk face s w k d =
    StepChunk face s w (comes_to s w (stand_of (across d.from)) d.segment)
    (delivery_on face w.sent k (Some d) ++ submits_on face (come_begun s w (stand_of (across d.from)) d.segment)) (come_begun s w (stand_of (across d.from)) d.segment)

come-chunk : (face : Face) (s : PathSetup) (w : Path) (k : ℕ) (from : Place) (segment : SegmentValue)
    → slice_get w.sent k ≡ Some (record { from = from; segment = segment }) → ComeChunk face s w k (record { from = from; segment = segment })
unfolding on_link
come-chunk face s w k places.OldNode segment is = either_face (λ each. ComeChunk each s w k (record { from = places.OldNode; segment = segment })) faces.Old
    (gate-arrives faces.Old s w faces.Old segment (deliver (length (sent_on faces.Old (take k w.sent))) ∷ [])
    (hear-here faces.Old s w (length (sent_on faces.Old (take k w.sent))) (record { from = first_end; segment = segment }) (got-on faces.Old w.sent k (record { from = places.OldNode; segment = segment }) is refl) refl))
    (gate-arrives faces.New s w faces.Old segment [] (hear-there faces.Old s w (hears_at s.gate faces.Old w.gate (Ok segment) w.now))) face
come-chunk face s w k places.NewNode segment is = either_face (λ each. ComeChunk each s w k (record { from = places.NewNode; segment = segment })) faces.New
    (gate-arrives faces.New s w faces.New segment (deliver (length (sent_on faces.New (take k w.sent))) ∷ [])
    (hear-here faces.New s w (length (sent_on faces.New (take k w.sent))) (record { from = second_end; segment = segment }) (got-on faces.New w.sent k (record { from = places.NewNode; segment = segment }) is refl) refl))
    (gate-arrives faces.Old s w faces.New segment [] (hear-there faces.New s w (hears_at s.gate faces.New w.gate (Ok segment) w.now))) face
come-chunk face s w k places.OldFace segment is = either_face (λ each. ComeChunk each s w k (record { from = places.OldFace; segment = segment })) faces.Old
    (node-here ends.Old s w (length (sent_on faces.Old (take k w.sent))) (record { from = second_end; segment = segment }) (got-on faces.Old w.sent k (record { from = places.OldFace; segment = segment }) is refl) refl)
    (node-there ends.Old s w (datagram_step s.nodes.0 w.nodes.0 (Ok segment) w.now)) face
come-chunk face s w k places.NewFace segment is = either_face (λ each. ComeChunk each s w k (record { from = places.NewFace; segment = segment })) faces.New
    (node-here ends.New s w (length (sent_on faces.New (take k w.sent))) (record { from = first_end; segment = segment }) (got-on faces.New w.sent k (record { from = places.NewFace; segment = segment }) is refl) refl)
    (node-there ends.New s w (datagram_step s.nodes.1 w.nodes.1 (Ok segment) w.now)) face

-- an end sends
send-here : (end : PathEnd) (s : PathSetup) (w : Path) (block : List ℕ) (step : EngineStep) → sends_block s w end block ≡ Ok step
    → StepChunk (face_of end) s w (node_does end w step) (submits_on (face_of end) (begun_as (node_place end) (at_path_end w.nodes end).next block (a_send end (at_path_end w.nodes end).next) ∷ []))
    (begun_as (node_place end) (at_path_end w.nodes end).next block (a_send end (at_path_end w.nodes end).next) ∷ [])
unfolding on_link
send-here ends.Old s w block step is =
    chunk-as faces.Old (link_parties s faces.Old) (link_at faces.Old w) (does_end (link_at faces.Old w) first_end step) (link_at faces.Old (node_does ends.Old w step).path)
    (submit first_end block (length block) ∷ []) [] (map (up_from places.OldNode) step.effects.ups) (begun_as places.OldNode w.nodes.0.next block (a_send ends.Old w.nodes.0.next) ∷ [])
    (submit-chunk faces.Old (link_parties s faces.Old) (link_at faces.Old w) first_end block (a_send ends.Old w.nodes.0.next) step is)
    (link-node-here ends.Old w step) (ap (λ us. map (up_from places.OldNode) us) (sends-no-up s.nodes.0 w.nodes.0 block (length block) w.now step is))
send-here ends.New s w block step is =
    chunk-as faces.New (link_parties s faces.New) (link_at faces.New w) (does_end (link_at faces.New w) second_end step) (link_at faces.New (node_does ends.New w step).path)
    (submit second_end block (length block) ∷ []) [] (map (up_from places.NewNode) step.effects.ups) (begun_as places.NewNode w.nodes.1.next block (a_send ends.New w.nodes.1.next) ∷ [])
    (submit-chunk faces.New (link_parties s faces.New) (link_at faces.New w) second_end block (a_send ends.New w.nodes.1.next) step is)
    (link-node-here ends.New w step) (ap (λ us. map (up_from places.NewNode) us) (sends-no-up s.nodes.1 w.nodes.1 block (length block) w.now step is))

send-there : (end : PathEnd) (s : PathSetup) (w : Path) (block : List ℕ) (step : EngineStep)
    → StepChunk (other_of (face_of end)) s w (node_does end w step) (submits_on (other_of (face_of end)) (begun_as (node_place end) (at_path_end w.nodes end).next block (a_send end (at_path_end w.nodes end).next) ∷ []))
    (begun_as (node_place end) (at_path_end w.nodes end).next block (a_send end (at_path_end w.nodes end).next) ∷ [])
send-there ends.Old s w block step =
    begun-there faces.New (link_parties s faces.New) (link_at faces.New w) (link_at faces.New (node_does ends.Old w step).path) (map (up_from places.OldNode) step.effects.ups)
    (begun_as places.OldNode w.nodes.0.next block (a_send ends.Old w.nodes.0.next)) (link-node-there ends.Old w step) (ups-there faces.Old first_end step.effects.ups) refl
send-there ends.New s w block step =
    begun-there faces.Old (link_parties s faces.Old) (link_at faces.Old w) (link_at faces.Old (node_does ends.New w step).path) (map (up_from places.NewNode) step.effects.ups)
    (begun_as places.NewNode w.nodes.1.next block (a_send ends.New w.nodes.1.next)) (link-node-there ends.New w step) (ups-there faces.New second_end step.effects.ups) refl

send-chunk : (face : Face) (s : PathSetup) (w : Path) (end : PathEnd) (block : List ℕ)
    → StepChunk face s w (sent_unless end w (sends_block s w end block)) (submits_on face (begun_at s w (sends end block))) (begun_at s w (sends end block))
unfolding on_link
send-chunk face s w end block = by (sends_block s w end block) refl where
  one : Begun
  one = begun_as (node_place end) (at_path_end w.nodes end).next block (a_send end (at_path_end w.nodes end).next)

  by : (r : Result EngineStep SubmitFault) → sends_block s w end block ≡ r
      → StepChunk face s w (sent_unless end w r)
      (submits_on face (begun_unless (begun_as (node_place end) (at_path_end w.nodes end).next block (a_send end (at_path_end w.nodes end).next)) r))
      (begun_unless (begun_as (node_place end) (at_path_end w.nodes end).next block (a_send end (at_path_end w.nodes end).next)) r)
  by (Err fault) is = chunk-none face (link_parties s face) (link_at face w) (link_at face w) refl
  by (Ok step) is = either_face (λ each. StepChunk each s w (node_does end w step) (submits_on each (one ∷ [])) (one ∷ [])) (face_of end)
      (send-here end s w block step is) (send-there end s w block step) face

-- the clock
ticks-old : (s : PathSetup) (w : Path) (now : ℕ)
    → link_at faces.Old (all_tick s now w).path
    ≡ does_end (does_end (record { engines = link_engines w faces.Old; sent = sent_on faces.Old w.sent; now = now }) first_end (tick_step s.nodes.0 w.nodes.0 now)) second_end (tick_step s.gate.parties.0 w.gate.engines.0 now)
unfolding then_does ticks_gate
ticks-old s w now =
    link-node-there ends.New w2 (tick_step s.nodes.1 w.nodes.1 now)
    ∙ (ap (λ x. link_at faces.Old x) (gate-path-then w1 a (ticks_at s.gate now faces.New))
    ∙ (link-gate-there faces.New wa (tick_step s.gate.parties.1 w.gate.engines.1 now)
    ∙ (link-gate-here faces.Old w1 (tick_step s.gate.parties.0 w.gate.engines.0 now)
    ∙ ap (λ x. does_end x second_end (tick_step s.gate.parties.0 w.gate.engines.0 now)) (link-node-here ends.Old w0 (tick_step s.nodes.0 w.nodes.0 now)))))
  where
    w0 : Path
    w0 = record w { now = now }

    w1 : Path
    w1 = (node_does ends.Old (record w { now = now }) (tick_step s.nodes.0 w.nodes.0 now)).path

    a : GateStep
    a = ticks_at s.gate now faces.Old w.gate

    wa : Path
    wa = (gate_does w1 a).path

    w2 : Path
    w2 = (gate_does w1 (and_then a (ticks_at s.gate now faces.New))).path

ticks-new : (s : PathSetup) (w : Path) (now : ℕ)
    → link_at faces.New (all_tick s now w).path
    ≡ does_end (does_end (record { engines = link_engines w faces.New; sent = sent_on faces.New w.sent; now = now }) first_end (tick_step s.gate.parties.1 w.gate.engines.1 now)) second_end (tick_step s.nodes.1 w.nodes.1 now)
unfolding then_does ticks_gate
ticks-new s w now =
    link-node-here ends.New w2 (tick_step s.nodes.1 w.nodes.1 now)
    ∙ ap (λ x. does_end x second_end (tick_step s.nodes.1 w.nodes.1 now))
    (ap (λ x. link_at faces.New x) (gate-path-then w1 a (ticks_at s.gate now faces.New))
    ∙ (link-gate-here faces.New wa (tick_step s.gate.parties.1 w.gate.engines.1 now)
    ∙ ap (λ x. does_end x first_end (tick_step s.gate.parties.1 w.gate.engines.1 now))
    (link-gate-there faces.Old w1 (tick_step s.gate.parties.0 w.gate.engines.0 now)
    ∙ link-node-there ends.Old w0 (tick_step s.nodes.0 w.nodes.0 now))))
  where
    w0 : Path
    w0 = record w { now = now }

    w1 : Path
    w1 = (node_does ends.Old (record w { now = now }) (tick_step s.nodes.0 w.nodes.0 now)).path

    a : GateStep
    a = ticks_at s.gate now faces.Old w.gate

    wa : Path
    wa = (gate_does w1 a).path

    w2 : Path
    w2 = (gate_does w1 (and_then a (ticks_at s.gate now faces.New))).path

tick-ups : (s : PathSetup) (w : Path) (now : ℕ) → (all_tick s now w).effects.ups ≡ []
unfolding then_does ticks_gate and_then tick_step
tick-ups s w now = refl

tick-chunk : (face : Face) (s : PathSetup) (w : Path) (now : ℕ) → nat_lt now w.now ≡ false → StepChunk face s w (all_tick s now w) (clock now ∷ []) []
tick-chunk faces.Old s w now later =
    chunk-as faces.Old (link_parties s faces.Old) (link_at faces.Old w) _ (link_at faces.Old (all_tick s now w).path) (clock now ∷ []) [] (all_tick s now w).effects.ups []
    (clock-chunk faces.Old (link_parties s faces.Old) (link_at faces.Old w) now later) (ticks-old s w now) (tick-ups s w now)
tick-chunk faces.New s w now later =
    chunk-as faces.New (link_parties s faces.New) (link_at faces.New w) _ (link_at faces.New (all_tick s now w).path) (clock now ∷ []) [] (all_tick s now w).effects.ups []
    (clock-chunk faces.New (link_parties s faces.New) (link_at faces.New w) now later) (ticks-new s w now) (tick-ups s w now)

now-chunk : (face : Face) (s : PathSetup) (w : Path) (now : ℕ) → StepChunk face s w (path_step s w (clock_shows now)) (clock now ∷ []) []
unfolding path_step
now-chunk face s w now = by (nat_lt now w.now) refl where
  by : (t : Bool) → nat_lt now w.now ≡ t → StepChunk face s w (if t then record { path = w; effects = nothing_done } else all_tick s now w) (clock now ∷ []) []
  by true is = clock-stays face (link_parties s face) (link_at face w) now is
  by false is = tick-chunk face s w now is

pub step-chunk : (face : Face) (s : PathSetup) (w : Path) (event : PathEvent) → StepChunk face s w (path_step s w event) (events_at face s w event) (begun_at s w event)
unfolding path_step on_link
step-chunk face s w (sends end block) = send-chunk face s w end block
step-chunk face s w (clock_shows now) = now-chunk face s w now
step-chunk face s w (delivers k) = by (slice_get w.sent k) refl where
  by : (got : Option SentFrom) → slice_get w.sent k ≡ got
      → StepChunk face s w (delivers_if s w got) (delivery_on face w.sent k got ++ submits_on face (delivered_begun s w got)) (delivered_begun s w got)
  by None is = chunk-none face (link_parties s face) (link_at face w) (link_at face w) refl
  by (Some d) is = come-chunk face s w k d.from d.segment is

-- ---- all events

pub run-chunk : (face : Face) (s : PathSetup) (w : Path) (events : List PathEvent)
    → Chunk face (link_parties s face) (link_at face w) (link_at face (path_run s w events)) (link_events face s w events) (ups_in s w events) (begun_in s w events)
unfolding path_run link_events ups_in begun_in
run-chunk face s w [] = chunk-none face (link_parties s face) (link_at face w) (link_at face w) refl
run-chunk face s w (event ∷ events) =
    chunk-then face (link_parties s face) (link_at face w) (link_at face (path_step s w event).path) (link_at face (path_run s (path_step s w event).path events))
    (events_at face s w event) (link_events face s (path_step s w event).path events) (path_step s w event).effects.ups (ups_in s (path_step s w event).path events)
    (begun_at s w event) (begun_in s (path_step s w event).path events) (step-chunk face s w event) (run-chunk face s (path_step s w event).path events)

-- the clock of a link is set first
start-link : (ps : Party × Party) (start : ℕ) → record { engines = (starts ps.0, starts ps.1); sent = []; now = start } ≡ happens ps (starts_world ps) (clock start)
unfolding ticks tick_segments ticked ended
start-link ps start = rw (never start) refl where
  never : (n : ℕ) → nat_lt n 0 ≡ false
  never n = grind (arith, nat_tests)

start-face : (face : Face) (s : PathSetup) (start : ℕ) → link_at face (starts_path s start) ≡ happens (link_parties s face) (starts_world (link_parties s face)) (clock start)
unfolding on_link
start-face faces.Old s start = start-link (link_parties s faces.Old) start
start-face faces.New s start = start-link (link_parties s faces.New) start

-- a run from the beginning, on a link
pub whole-chunk : (face : Face) (s : PathSetup) (start : ℕ) (events : List PathEvent)
    → Chunk face (link_parties s face) (starts_world (link_parties s face)) (link_at face (path_run s (starts_path s start) events))
    (clock start ∷ link_events face s (starts_path s start) events) (ups_in s (starts_path s start) events) (begun_in s (starts_path s start) events)
unfolding on_link hand_ups submissions
whole-chunk face s start events =
    chunk-then face (link_parties s face) (starts_world (link_parties s face)) (link_at face (starts_path s start)) (link_at face (path_run s (starts_path s start) events))
    (clock start ∷ []) (link_events face s (starts_path s start) events) [] (ups_in s (starts_path s start) events) [] (begun_in s (starts_path s start) events)
    (record { runs = start-face face s start; handed = refl; begins = refl }) (run-chunk face s (starts_path s start) events)
