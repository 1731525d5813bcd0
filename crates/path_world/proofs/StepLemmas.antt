-- What the parts of a path world do is the step of each path that they stand for.

use Rattle.std.proofs.Common.{◌≡◌, ℕ, ◌+◌, ◌<◌, ◌^◌, false, List, [], ◌∷◌, ◌++◌, length, map, Result, refl, sym, ap, ◌∙◌, subst}
use Rattle.std.proofs.lemmas.List.{append_assoc, map-append, length-append, length-map}
use Rattle.fragments.specs.declared.join.Join.{Join}
use Rattle.gateway_core.specs.declared.effects.GateEffects.{GateEffects}
use Rattle.gateway_core.specs.Effects.{gate_effects_of, routed_of}
use Rattle.gate_cases.specs.declared.face.Face.{Face}
use Rattle.gateway_core.specs.Gate.{Gate, GateStep, GateEffectsValue, RoutedValue, arrives_at, ticks_gate}
use Rattle.gateway_core.specs.Shows.{ShowsGate, IsGateBounded}
use Rattle.gateway_core.specs.Values.{setup_of as gate_setup_of}
use Rattle.gateway_core.specs.Steps.{GateSteps}
use Rattle.ltp_engine.specs.declared.effects.Effects.{Effects}
use Rattle.ltp_engine.specs.Effects.{effects_of, up_of}
use Rattle.ltp_engine.specs.Shows.{Shows}
use Rattle.ltp_segment.specs.declared.fault.SegmentCause.{SegmentCause}
use Rattle.ltp_segment.specs.Spelling.{segment_octets}
use Rattle.ltp_segment.specs.Values.{SegmentValue}
use Rattle.ltp_session.specs.Engine.{Engine, EngineStep, UpValue, datagram_step, tick_step}
use Rattle.path_laws.specs.declared.effects.EndJoin.{EndJoin}
use Rattle.path_laws.specs.declared.effects.PathEffects.{PathEffects}
use Rattle.path_laws.specs.declared.places.PathEnd.{PathEnd}
use Rattle.path_laws.specs.declared.places.PathEnd.TheVariants as ends
use Rattle.path_laws.specs.declared.places.Place.{Place}
use Rattle.path_laws.specs.Path.{Path, PathSetup, PathStep, PathEffectsValue, SentFrom, at_path_end, node_does, node_effects, gate_does, gate_effects, gate_sent, fragments_in, fragments_of, joins_told, joins_then, up_from, node_ticks, then_does, and_more}
use Rattle.path_laws.specs.Path.{sent_from as path_sent}
use Rattle.path_laws.specs.Places.{at_node, at_gate, face_of, node_place}
use Rattle.path_world.specs.declared.node.Done.{Done}
use Rattle.path_world.specs.declared.node.Node.{Node}
use Rattle.path_world.specs.declared.parts.Parts.{Parts}
use Rattle.path_world.specs.declared.sent.Sent.{Sent}
use Rattle.path_world.specs.Shows.{ShowsPath}
use Rattle.path_world.specs.Values.{spelled, numbered, effects_told}
use Rattle.path_world.specs.Ties.{sent_of, sent_from, routed_from, up_at, node_told, gate_told, both_told, bodies_of, NodeDidAt, OtherStays, live, setup_in, nodes_in, IsKept, Does, hears_as, gate_ticks, with_sent}
use Rattle.path_world.proofs.SentLemmas.{numbered-append}

-- ---- what is told

sent-spelled : (place : Place) (segments : List SegmentValue) → sent_from place (map segment_octets segments) ≡ map spelled (map (path_sent place) segments)
sent-spelled place [] = refl
sent-spelled place (s ∷ segments) = ap (λ rest. sent_of place (segment_octets s) ∷ rest) (sent-spelled place segments)

routed-spelled : (rs : List RoutedValue) → map routed_from (map routed_of rs) ≡ map spelled (map gate_sent rs)
routed-spelled [] = refl
routed-spelled (r ∷ rs) = ap (λ rest. routed_from (routed_of r) ∷ rest) (routed-spelled rs)

ups-told : (place : Place) (ups : List UpValue) → map (up_at place) (map up_of ups) ≡ map (up_from place) ups
ups-told place [] = refl
ups-told place (up ∷ ups) = ap (λ rest. up_from place up ∷ rest) (ups-told place ups)

bodies-told : (ups : List UpValue) → bodies_of (map up_of ups) ≡ map (λ up. up.body) ups
bodies-told [] = refl
bodies-told (up ∷ ups) = ap (λ rest. up.body ∷ rest) (bodies-told ups)

fragments-told : (end : PathEnd) (step : EngineStep) → fragments_in (face_of end) (bodies_of (effects_of step.effects).ups) ≡ fragments_of end step.effects.ups
fragments-told end step = ap (λ bs. fragments_in (face_of end) bs) (bodies-told step.effects.ups)

-- what a node's engine and joiner did
node-told : (end : PathEnd) (joins : List Join) (step : EngineStep) (k : ℕ) (effects : Effects) (told : List EndJoin) → effects ≡ effects_of step.effects
    → told ≡ joins_told (face_of end) joins (fragments_in (face_of end) (bodies_of effects.ups))
    → node_told (node_place end) (numbered k (sent_from (node_place end) effects.out)) effects.ups told effects.notes ≡ effects_told k (node_effects end joins step)
node-told end joins step k effects told is tells =
    ap (λ (e : Effects). node_told (node_place end) (numbered k (sent_from (node_place end) e.out)) e.ups told e.notes) is
    ∙ rw (sent-spelled (node_place end) step.effects.out, ups-told (node_place end) step.effects.ups, answers) refl
  where
    answers : told ≡ joins_told (face_of end) joins (fragments_of end step.effects.ups)
    answers =
        tells ∙ ap (λ fs. joins_told (face_of end) joins fs)
        (ap (λ (e : Effects). fragments_in (face_of end) (bodies_of e.ups)) is ∙ fragments-told end step)

gate-told : (e : GateEffectsValue) (k : ℕ) (effects : GateEffects) → effects ≡ gate_effects_of e
    → gate_told (numbered k (map routed_from effects.out)) effects.ups effects.notes ≡ effects_told k (gate_effects e)
gate-told e k effects is =
    ap (λ (g : GateEffects). gate_told (numbered k (map routed_from g.out)) g.ups g.notes) is ∙ rw (routed-spelled e.out) refl

-- ---- a node's step, on one path

shows-node : (end : PathEnd) (a : Parts) (w : Path) → ShowsPath (live a) w → Shows (at_path_end (nodes_in a) end).engine (at_path_end w.nodes end)
shows-node ends.Old a w shows = shows.old_node
shows-node ends.New a w shows = shows.new_node

joins-at : (end : PathEnd) (a : Parts) (w : Path) → ShowsPath (live a) w → at_path_end w.joins end ≡ (at_path_end (nodes_in a) end).joiner.joins
joins-at ends.Old a w shows = ap (λ (p : List Join × List Join). p.0) shows.joins
joins-at ends.New a w shows = ap (λ (p : List Join × List Join). p.1) shows.joins

-- the parts but for one node, and what was sent
pub record NodeMoves (end : PathEnd) (a c : Parts) (out : List (List ℕ)) : Type 0 where
  pub other : OtherStays end (nodes_in a) (nodes_in c)
  pub gate : c.gate ≡ a.gate
  pub moment : c.moment ≡ a.moment
  pub sent : c.sent ≡ a.sent ++ sent_from (node_place end) out

-- what an engine's step and the joiner leave of a path
pub record NodeLeaves (end : PathEnd) (a c : Parts) (step : EngineStep) (effects : Effects) (told : List EndJoin) : Type 0 where
  pub shows : Shows (at_path_end (nodes_in c) end).engine step.engine
  pub effects_are : effects ≡ effects_of step.effects
  pub joins : (at_path_end (nodes_in c) end).joiner.joins ≡ joins_then (at_path_end (nodes_in a) end).joiner.joins (fragments_in (face_of end) (bodies_of effects.ups))
  pub tells : told ≡ joins_told (face_of end) (at_path_end (nodes_in a) end).joiner.joins (fragments_in (face_of end) (bodies_of effects.ups))

pub record StepOf (a c : Parts) (step : PathStep) (effects : PathEffects) : Type 0 where
  pub shows : ShowsPath (live c) step.path
  pub sent : c.sent ≡ a.sent ++ map spelled step.effects.sent
  pub told : effects ≡ effects_told (length a.sent) step.effects

node-sent : (end : PathEnd) (step : EngineStep) (effects : Effects) → effects ≡ effects_of step.effects
    → sent_from (node_place end) effects.out ≡ map spelled (map (path_sent (node_place end)) step.effects.out)
node-sent end step effects is = ap (λ (e : Effects). sent_from (node_place end) e.out) is ∙ sent-spelled (node_place end) step.effects.out

-- the joins then, as the path has them
joins-left : (end : PathEnd) (a c : Parts) (w : Path) (step : EngineStep) (effects : Effects) (told : List EndJoin) → ShowsPath (live a) w → NodeLeaves end a c step effects told
    → joins_then (at_path_end w.joins end) (fragments_of end step.effects.ups) ≡ (at_path_end (nodes_in c) end).joiner.joins
joins-left end a c w step effects told shows leaves =
    ap (λ js. joins_then js (fragments_of end step.effects.ups)) (joins-at end a w shows)
    ∙ (ap (λ fs. joins_then (at_path_end (nodes_in a) end).joiner.joins fs) (sym (ap (λ (e : Effects). fragments_in (face_of end) (bodies_of e.ups)) leaves.effects_are ∙ fragments-told end step))
    ∙ sym leaves.joins)

all-sent : (w : Path) (sent new made : List Sent) (more : List SentFrom) → sent ≡ map spelled w.sent → made ≡ map spelled more → new ≡ sent ++ made
    → new ≡ map spelled (w.sent ++ more)
all-sent w sent new made more was is more_is = more_is ∙ (rw (was, is) refl ∙ sym (map-append spelled w.sent more))

node-shows : (end : PathEnd) (a c : Parts) (w : Path) (step : EngineStep) (effects : Effects) (told : List EndJoin) → ShowsPath (live a) w
    → NodeMoves end a c effects.out → NodeLeaves end a c step effects told → ShowsPath (live c) (node_does end w step).path
node-shows ends.Old a c w step effects told shows moves leaves = record {
  old_node = leaves.shows;
  new_node = subst (λ (n : Node). Shows n.engine w.nodes.1) (sym moves.other) shows.new_node;
  gate = subst (λ g. ShowsGate g w.gate) (sym moves.gate) shows.gate;
  joins = rw (joins-left ends.Old a c w step effects told shows leaves)
      (ap (λ js. (c.old_node.joiner.joins, js)) (ap (λ (p : List Join × List Join). p.1) shows.joins ∙ ap (λ (n : Node). n.joiner.joins) (sym moves.other)));
  sent = all-sent w a.sent c.sent (sent_from (node_place ends.Old) effects.out) (map (path_sent (node_place ends.Old)) step.effects.out) shows.sent
      (node-sent ends.Old step effects leaves.effects_are) moves.sent;
  now = shows.now ∙ sym moves.moment;
}
node-shows ends.New a c w step effects told shows moves leaves = record {
  old_node = subst (λ (n : Node). Shows n.engine w.nodes.0) (sym moves.other) shows.old_node;
  new_node = leaves.shows;
  gate = subst (λ g. ShowsGate g w.gate) (sym moves.gate) shows.gate;
  joins = rw (joins-left ends.New a c w step effects told shows leaves)
      (ap (λ js. (js, c.new_node.joiner.joins)) (ap (λ (p : List Join × List Join). p.0) shows.joins ∙ ap (λ (n : Node). n.joiner.joins) (sym moves.other)));
  sent = all-sent w a.sent c.sent (sent_from (node_place ends.New) effects.out) (map (path_sent (node_place ends.New)) step.effects.out) shows.sent
      (node-sent ends.New step effects leaves.effects_are) moves.sent;
  now = shows.now ∙ sym moves.moment;
}

pub node-step : (end : PathEnd) (a c : Parts) (w : Path) (step : EngineStep) (effects : Effects) (told : List EndJoin) → ShowsPath (live a) w
    → NodeMoves end a c effects.out → NodeLeaves end a c step effects told
    → StepOf a c (node_does end w step) (node_told (node_place end) (numbered (length a.sent) (sent_from (node_place end) effects.out)) effects.ups told effects.notes)
node-step end a c w step effects told shows moves leaves = record {
  shows = node-shows end a c w step effects told shows moves leaves;
  sent = moves.sent ∙ ap (λ ds. a.sent ++ ds) (node-sent end step effects leaves.effects_are);
  told = node-told end (at_path_end w.joins end) step (length a.sent) effects told leaves.effects_are
      (leaves.tells ∙ ap (λ js. joins_told (face_of end) js (fragments_in (face_of end) (bodies_of effects.ups))) (sym (joins-at end a w shows)));
}

-- ---- any step, on each path

pub record Moves (a c : Parts) : Type 0 where
  pub kept : IsKept c
  pub setup : setup_in c ≡ setup_in a
  pub moment : c.moment ≡ a.moment

pub does-so : (a c : Parts) (step : Path → PathStep) (effects : PathEffects) → Moves a c → ((w : Path) → ShowsPath (live a) w → StepOf a c (step w) effects)
    → Does a c step effects
does-so a c step effects moves each = record {
  kept = moves.kept;
  setup = moves.setup;
  moment = moves.moment;
  next = λ w shows. (each w shows).shows;
  sent = λ w shows. (each w shows).sent;
  told = λ w shows. (each w shows).told;
}

-- a step that is the same for each path that the parts stand for
pub does-same : (a c : Parts) (f h : Path → PathStep) (e : PathEffects) → ((w : Path) → ShowsPath (live a) w → f w ≡ h w) → Does a c f e → Does a c h e
does-same a c f h e same does = record {
  kept = does.kept;
  setup = does.setup;
  moment = does.moment;
  next = λ w shows. subst (λ (s : PathStep). ShowsPath (live c) s.path) (same w shows) (does.next w shows);
  sent = λ w shows. does.sent w shows ∙ ap (λ (s : PathStep). a.sent ++ map spelled s.effects.sent) (same w shows);
  told = λ w shows. does.told w shows ∙ ap (λ (s : PathStep). effects_told (length a.sent) s.effects) (same w shows);
}

-- one step, and then another
told-then : (k n : ℕ) (first more : PathEffectsValue) → n ≡ k + length first.sent
    → both_told (effects_told k first) (effects_told n more) ≡ effects_told k (and_more first more)
told-then k n first more is =
    rw (is, map-append spelled first.sent more.sent, numbered-append k (map spelled first.sent) (map spelled more.sent), length-map first.sent spelled) refl

pub does-then : (a b c : Parts) (f : Path → PathStep) (h : PathSetup → Path → PathStep) (e1 e2 e : PathEffects) → Does a b f e1 → Does b c (h (setup_in b)) e2 → e ≡ both_told e1 e2
    → Does a c (λ w. then_does (f w) (h (setup_in a))) e
unfolding then_does
does-then a b c f h e1 e2 e first second both = record {
  kept = second.kept;
  setup = second.setup ∙ first.setup;
  moment = second.moment ∙ first.moment;
  next = λ w shows. subst (λ s. ShowsPath (live c) (h s (f w).path).path) first.setup (second.next (f w).path (first.next w shows));
  sent = λ w shows.
      second.sent (f w).path (first.next w shows)
      ∙ (ap (λ ds. ds ++ map spelled (h (setup_in b) (f w).path).effects.sent) (first.sent w shows)
      ∙ (append_assoc a.sent (map spelled (f w).effects.sent) (map spelled (h (setup_in b) (f w).path).effects.sent)
      ∙ (ap (λ ds. a.sent ++ ds) (sym (map-append spelled (f w).effects.sent (h (setup_in b) (f w).path).effects.sent))
      ∙ ap (λ s. a.sent ++ map spelled ((f w).effects.sent ++ (h s (f w).path).effects.sent)) first.setup)));
  told = λ w shows.
      both ∙ (ap (λ x. both_told x e2) (first.told w shows)
      ∙ (ap (λ x. both_told (effects_told (length a.sent) (f w).effects) x) (second.told (f w).path (first.next w shows))
      ∙ (told-then (length a.sent) (length b.sent) (f w).effects (h (setup_in b) (f w).path).effects
      (ap (λ (ds : List Sent). length ds) (first.sent w shows) ∙ (length-append a.sent (map spelled (f w).effects.sent) ∙ ap (λ n. length a.sent + n) (length-map (f w).effects.sent spelled)))
      ∙ ap (λ s. effects_told (length a.sent) (and_more (f w).effects (h s (f w).path).effects)) first.setup)));
}

-- ---- the nodes

party-at : (end : PathEnd) (a : Parts) → (at_path_end (nodes_in a) end).engine.party ≡ at_path_end (setup_in a).nodes end
party-at ends.Old a = refl
party-at ends.New a = refl

-- the node of an end did a step, and nothing else changed
pub record NodeStepped (end : PathEnd) (a b : Parts) : Type 0 where
  pub gate : b.gate ≡ a.gate
  pub moment : b.moment ≡ a.moment
  pub sent : b.sent ≡ a.sent

node-setup : (end : PathEnd) (a b c : Parts) (step : Engine → EngineStep) (done : Done) → NodeDidAt end (nodes_in a) (nodes_in b) step done → b.gate ≡ a.gate
    → setup_in b ≡ setup_in a
node-setup ends.Old a b c step done did gate = rw (did.did.steps.party, did.other, gate) refl
node-setup ends.New a b c step done did gate = rw (did.did.steps.party, did.other, gate) refl

node-kept : (end : PathEnd) (a b : Parts) (step : Engine → EngineStep) (done : Done) → NodeDidAt end (nodes_in a) (nodes_in b) step done → NodeStepped end a b → IsKept a
    → IsKept b
node-kept ends.Old a b step done did same kept = record {
  old_node = did.did.whole;
  new_node = rw did.other kept.new_node;
  gate = rw same.gate kept.gate;
  gate_bounds = rw same.gate kept.gate_bounds;
  moment = rw same.moment kept.moment;
}
node-kept ends.New a b step done did same kept = record {
  old_node = rw did.other kept.old_node;
  new_node = did.did.whole;
  gate = rw same.gate kept.gate;
  gate_bounds = rw same.gate kept.gate_bounds;
  moment = rw same.moment kept.moment;
}

pub sent-kept : (b : Parts) (more : List Sent) → IsKept b → IsKept (with_sent b more)
sent-kept b more kept = record {
  old_node = kept.old_node;
  new_node = kept.new_node;
  gate = kept.gate;
  gate_bounds = kept.gate_bounds;
  moment = kept.moment;
}

-- the node did it, what it sent is kept, and all is told
pub node-did : (end : PathEnd) (a b c : Parts) (step : Engine → EngineStep) (done : Done) (told : PathEffects) → NodeDidAt end (nodes_in a) (nodes_in b) step done
    → NodeStepped end a b → IsKept a → c ≡ with_sent b (sent_from (node_place end) done.effects.out)
    → told ≡ node_told (node_place end) (numbered (length b.sent) (sent_from (node_place end) done.effects.out)) done.effects.ups done.joins.items done.effects.notes
    → Does a c (λ w. node_does end w (step (at_path_end w.nodes end))) told
node-did end a b c step done told did same kept c_is told_is =
    subst (λ x. Does a x (λ w. node_does end w (step (at_path_end w.nodes end))) told) (sym c_is)
    (does-so a after (λ w. node_does end w (step (at_path_end w.nodes end))) told moves each)
  where
    after : Parts
    after = with_sent b (sent_from (node_place end) done.effects.out)

    moves : Moves a after
    moves = record {
      kept = sent-kept b (sent_from (node_place end) done.effects.out) (node-kept end a b step done did same kept);
      setup = node-setup end a b b step done did same.gate;
      moment = same.moment;
    }

    each : (w : Path) → ShowsPath (live a) w → StepOf a after (node_does end w (step (at_path_end w.nodes end))) told
    each w shows =
        subst (λ t. StepOf a after (node_does end w (step (at_path_end w.nodes end))) t)
        (sym (told_is ∙ ap (λ (ds : List Sent). node_told (node_place end) (numbered (length ds) (sent_from (node_place end) done.effects.out)) done.effects.ups done.joins.items done.effects.notes) same.sent))
        (node-step end a after w (step (at_path_end w.nodes end)) done.effects done.joins.items shows
        (record {
          other = did.other;
          gate = same.gate;
          moment = same.moment;
          sent = ap (λ ds. ds ++ sent_from (node_place end) done.effects.out) same.sent;
        })
        (record {
          shows = did.did.steps.next (at_path_end w.nodes end) (shows-node end a w shows);
          effects_are = did.did.steps.effects_are (at_path_end w.nodes end) (shows-node end a w shows);
          joins = did.did.joins.joins;
          tells = did.did.joins.tells;
        }))

-- a datagram came to it
pub node-heard : (end : PathEnd) (a b c : Parts) (read : Result SegmentValue (ℕ × SegmentCause)) (now : ℕ) (done : Done) (told : PathEffects)
    → NodeDidAt end (nodes_in a) (nodes_in b) (λ e. datagram_step (at_path_end (nodes_in a) end).engine.party e read now) done
    → NodeStepped end a b → IsKept a → now ≡ a.moment → c ≡ with_sent b (sent_from (node_place end) done.effects.out)
    → told ≡ node_told (node_place end) (numbered (length b.sent) (sent_from (node_place end) done.effects.out)) done.effects.ups done.joins.items done.effects.notes
    → Does a c (hears_as (setup_in a) (at_node end) read) told
node-heard end a b c read now done told did same kept at c_is told_is =
    does-same a c (λ w. node_does end w (datagram_step (at_path_end (nodes_in a) end).engine.party (at_path_end w.nodes end) read now)) (hears_as (setup_in a) (at_node end) read) told
    (λ w shows. ap (λ p. node_does end w (datagram_step p (at_path_end w.nodes end) read now)) (party-at end a)
    ∙ ap (λ n. node_does end w (datagram_step (at_path_end (setup_in a).nodes end) (at_path_end w.nodes end) read n)) (at ∙ sym shows.now))
    (node-did end a b c (λ e. datagram_step (at_path_end (nodes_in a) end).engine.party e read now) done told did same kept c_is told_is)

-- its sessions ticked
pub node-ticked : (end : PathEnd) (a b c : Parts) (now : ℕ) (done : Done) (told : PathEffects)
    → NodeDidAt end (nodes_in a) (nodes_in b) (λ e. tick_step (at_path_end (nodes_in a) end).engine.party e now) done
    → NodeStepped end a b → IsKept a → now ≡ a.moment → c ≡ with_sent b (sent_from (node_place end) done.effects.out)
    → told ≡ node_told (node_place end) (numbered (length b.sent) (sent_from (node_place end) done.effects.out)) done.effects.ups done.joins.items done.effects.notes
    → Does a c (node_ticks (setup_in a) a.moment end) told
node-ticked end a b c now done told did same kept at c_is told_is =
    does-same a c (λ w. node_does end w (tick_step (at_path_end (nodes_in a) end).engine.party (at_path_end w.nodes end) now)) (node_ticks (setup_in a) a.moment end) told
    (λ w shows. ap (λ p. node_does end w (tick_step p (at_path_end w.nodes end) now)) (party-at end a)
    ∙ ap (λ n. node_does end w (tick_step (at_path_end (setup_in a).nodes end) (at_path_end w.nodes end) n)) at)
    (node-did end a b c (λ e. tick_step (at_path_end (nodes_in a) end).engine.party e now) done told did same kept c_is told_is)

-- ---- the gate

pub record GateStepped (a b : Parts) : Type 0 where
  pub old_node : b.old_node ≡ a.old_node
  pub new_node : b.new_node ≡ a.new_node
  pub moment : b.moment ≡ a.moment
  pub sent : b.sent ≡ a.sent

gate-kept : (a b : Parts) → GateStepped a b → b.gate.spent ≡ false → IsGateBounded b.gate → IsKept a → IsKept b
gate-kept a b same whole bounds kept = record {
  old_node = rw same.old_node kept.old_node;
  new_node = rw same.new_node kept.new_node;
  gate = whole;
  gate_bounds = bounds;
  moment = rw same.moment kept.moment;
}

gate-step : (a b : Parts) (w : Path) (step : GateStep) (effects : GateEffects) → ShowsPath (live a) w → GateStepped a b → ShowsGate b.gate step.gate
    → effects ≡ gate_effects_of step.effects
    → StepOf a (with_sent b (map routed_from effects.out)) (gate_does w step) (gate_told (numbered (length a.sent) (map routed_from effects.out)) effects.ups effects.notes)
gate-step a b w step effects shows same gate is = record {
  shows = record {
    old_node = subst (λ (n : Node). Shows n.engine w.nodes.0) (sym same.old_node) shows.old_node;
    new_node = subst (λ (n : Node). Shows n.engine w.nodes.1) (sym same.new_node) shows.new_node;
    gate = gate;
    joins = rw (same.old_node, same.new_node) shows.joins;
    sent = all-sent w a.sent (b.sent ++ map routed_from effects.out) (map routed_from effects.out) (map gate_sent step.effects.out) shows.sent routed
        (ap (λ ds. ds ++ map routed_from effects.out) same.sent);
    now = shows.now ∙ sym same.moment;
  };
  sent = ap (λ ds. ds ++ map routed_from effects.out) same.sent ∙ ap (λ ds. a.sent ++ ds) routed;
  told = gate-told step.effects (length a.sent) effects is;
} where
  routed : map routed_from effects.out ≡ map spelled (map gate_sent step.effects.out)
  routed = ap (λ (e : GateEffects). map routed_from e.out) is ∙ routed-spelled step.effects.out

pub gate-did : (a b c : Parts) (step : Gate → GateStep) (effects : GateEffects) (told : PathEffects) → GateSteps a.gate b.gate step effects → IsGateBounded b.gate
    → GateStepped a b → IsKept a → c ≡ with_sent b (map routed_from effects.out)
    → told ≡ gate_told (numbered (length b.sent) (map routed_from effects.out)) effects.ups effects.notes
    → Does a c (λ w. gate_does w (step w.gate)) told
gate-did a b c step effects told steps bounds same kept c_is told_is =
    subst (λ x. Does a x (λ w. gate_does w (step w.gate)) told) (sym c_is)
    (does-so a (with_sent b (map routed_from effects.out)) (λ w. gate_does w (step w.gate)) told
    (record {
      kept = sent-kept b (map routed_from effects.out) (gate-kept a b same steps.whole bounds kept);
      setup = rw (same.old_node, same.new_node, steps.setup) refl;
      moment = same.moment;
    })
    (λ w shows. subst (λ t. StepOf a (with_sent b (map routed_from effects.out)) (gate_does w (step w.gate)) t)
    (sym (told_is ∙ ap (λ (ds : List Sent). gate_told (numbered (length ds) (map routed_from effects.out)) effects.ups effects.notes) same.sent))
    (gate-step a b w (step w.gate) effects shows same (steps.next w.gate shows.gate) (steps.effects_are w.gate shows.gate))))

-- a datagram came to a face
pub gate-heard : (face : Face) (a b c : Parts) (read : Result SegmentValue (ℕ × SegmentCause)) (now : ℕ) (effects : GateEffects) (told : PathEffects)
    → GateSteps a.gate b.gate (arrives_at (gate_setup_of a.gate) face read now) effects → IsGateBounded b.gate
    → GateStepped a b → IsKept a → now ≡ a.moment → c ≡ with_sent b (map routed_from effects.out)
    → told ≡ gate_told (numbered (length b.sent) (map routed_from effects.out)) effects.ups effects.notes
    → Does a c (hears_as (setup_in a) (at_gate face) read) told
gate-heard face a b c read now effects told steps bounds same kept at c_is told_is =
    does-same a c (λ w. gate_does w (arrives_at (gate_setup_of a.gate) face read now w.gate)) (hears_as (setup_in a) (at_gate face) read) told
    (λ w shows. ap (λ n. gate_does w (arrives_at (gate_setup_of a.gate) face read n w.gate)) (at ∙ sym shows.now))
    (gate-did a b c (arrives_at (gate_setup_of a.gate) face read now) effects told steps bounds same kept c_is told_is)

pub gate-ticked : (a b c : Parts) (now : ℕ) (effects : GateEffects) (told : PathEffects)
    → GateSteps a.gate b.gate (ticks_gate (gate_setup_of a.gate) now) effects → IsGateBounded b.gate
    → GateStepped a b → IsKept a → now ≡ a.moment → c ≡ with_sent b (map routed_from effects.out)
    → told ≡ gate_told (numbered (length b.sent) (map routed_from effects.out)) effects.ups effects.notes
    → Does a c (gate_ticks (setup_in a) a.moment) told
gate-ticked a b c now effects told steps bounds same kept at c_is told_is =
    does-same a c (λ w. gate_does w (ticks_gate (gate_setup_of a.gate) now w.gate)) (gate_ticks (setup_in a) a.moment) told
    (λ w shows. ap (λ n. gate_does w (ticks_gate (gate_setup_of a.gate) n w.gate)) at)
    (gate-did a b c (ticks_gate (gate_setup_of a.gate) now) effects told steps bounds same kept c_is told_is)

-- ---- the clock

pub moment-kept : (a : Parts) (now : ℕ) → now < 2 ^ 62 → IsKept a → IsKept (record a { moment = now })
moment-kept a now below kept = record {
  old_node = kept.old_node;
  new_node = kept.new_node;
  gate = kept.gate;
  gate_bounds = kept.gate_bounds;
  moment = below;
}

pub moment-shows : (a : Parts) (w : Path) (now : ℕ) → ShowsPath (live a) w → ShowsPath (live (record a { moment = now })) (record w { now = now })
moment-shows a w now shows = record {
  old_node = shows.old_node;
  new_node = shows.new_node;
  gate = shows.gate;
  joins = shows.joins;
  sent = shows.sent;
  now = refl;
}
