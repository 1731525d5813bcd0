-- The answers of a path world's parts.

use Rattle.std.proofs.Common.{◌≡◌, ℕ, ◌≤◌, List, length, map, Some, Result, Ok, Err, IfOk, OnOk, refl, sym, ap, ◌∙◌, subst}
use Rattle.std.specs.List.{slice_get}
use Rattle.gate_cases.specs.declared.face.Face.{Face}
use Rattle.gateway_core.specs.declared.effects.GateEffects.{GateEffects}
use Rattle.gateway_core.specs.Gate.{arrives_at, ticks_gate}
use Rattle.gateway_core.specs.Shows.{IsGateBounded}
use Rattle.gateway_core.specs.Steps.{GateSteps}
use Rattle.gateway_core.specs.Values.{GatewayValue}
use Rattle.gateway_core.specs.Values.{setup_of as gate_setup_of}
use Rattle.ltp_segment.specs.Reading.{segment_of}
use Rattle.ltp_session.specs.Engine.{datagram_step, tick_step}
use Rattle.path_laws.specs.declared.effects.PathEffects.{PathEffects}
use Rattle.path_laws.specs.declared.places.PathEnd.{PathEnd}
use Rattle.path_laws.specs.declared.places.PathEnd.TheVariants as ends
use Rattle.path_laws.specs.Path.{at_path_end, delivers, clock_shows, node_ticks}
use Rattle.path_laws.specs.Places.{Stand, at_node, at_gate, stand_of, across, node_place}
use Rattle.path_world.specs.declared.node.Done.{Done}
use Rattle.path_world.specs.declared.node.Node.{Node}
use Rattle.path_world.specs.declared.parts.Parts.{Parts}
use Rattle.path_world.specs.declared.sent.Sent.{Sent}
use Rattle.path_world.specs.Ties.{sent_from, routed_from, node_told, gate_told, both_told, NodeDidAt, setup_in, nodes_in, with_sent, IsKept, IsWhole, Does, Did, hears_as, gate_ticks}
use Rattle.path_world.specs.Values.{numbered}
use Rattle.path_world.proofs.StepLemmas.{node-heard, node-ticked, gate-heard, gate-ticked}
use Rattle.path_world.proofs.RunLemmas.{delivered}
use Rattle.path_world.proofs.CallLemmas.{clock-happened}

some-same : (x y : Sent) (xs : List Sent) (k : ℕ) → slice_get xs k ≡ Some x → slice_get xs k ≡ Some y → x ≡ y
some-same x y xs k first second = cc

-- a datagram came to a node
pub node-heard-if : {E : Type 0} (end : PathEnd) (a : Parts) (news : Node × Node) (c : Parts) (k : ℕ) (item : Sent) (datagram : List ℕ) (done : Done) (result : Result PathEffects E)
    → IsKept a → slice_get a.sent k ≡ Some item → datagram ≡ item.datagram
    → NodeDidAt end (nodes_in a) news (λ e. datagram_step (at_path_end (nodes_in a) end).engine.party e (segment_of datagram) a.moment) done
    → OnOk result (c ≡ with_sent (record a { old_node = news.0; new_node = news.1 }) (sent_from (node_place end) done.effects.out))
    → IfOk result (λ told. told ≡ node_told (node_place end) (numbered (length a.sent) (sent_from (node_place end) done.effects.out)) done.effects.ups done.joins.items done.effects.notes)
    → IfOk result (λ effects. (d : Sent) → slice_get a.sent k ≡ Some d → Does a c (hears_as (setup_in a) (at_node end) (segment_of d.datagram)) effects)
node-heard-if end a news c k item datagram done (Err e) kept got is did sent told = tt
node-heard-if end a news c k item datagram done (Ok effects) kept got is did sent told =
    λ d found. subst (λ octets. Does a c (hears_as (setup_in a) (at_node end) (segment_of octets)) effects) (is ∙ ap (λ (i : Sent). i.datagram) (some-same item d a.sent k got found))
    (node-heard end a (record a { old_node = news.0; new_node = news.1 }) c (segment_of datagram) a.moment done effects did (record { gate = refl; moment = refl; sent = refl }) kept refl sent told)

-- its sessions ticked
pub node-ticked-if : {E : Type 0} (end : PathEnd) (a : Parts) (news : Node × Node) (c : Parts) (done : Done) (result : Result PathEffects E) → IsKept a
    → NodeDidAt end (nodes_in a) news (λ e. tick_step (at_path_end (nodes_in a) end).engine.party e a.moment) done
    → OnOk result (c ≡ with_sent (record a { old_node = news.0; new_node = news.1 }) (sent_from (node_place end) done.effects.out))
    → IfOk result (λ told. told ≡ node_told (node_place end) (numbered (length a.sent) (sent_from (node_place end) done.effects.out)) done.effects.ups done.joins.items done.effects.notes)
    → IfOk result (Does a c (node_ticks (setup_in a) a.moment end))
node-ticked-if end a news c done (Err e) kept did sent told = tt
node-ticked-if end a news c done (Ok effects) kept did sent told =
    node-ticked end a (record a { old_node = news.0; new_node = news.1 }) c a.moment done effects did (record { gate = refl; moment = refl; sent = refl }) kept refl sent told

-- a datagram came to a face
pub gate-heard-if : {E : Type 0} (face : Face) (a : Parts) (gate : GatewayValue) (c : Parts) (k : ℕ) (item : Sent) (datagram : List ℕ) (effects : GateEffects) (result : Result PathEffects E)
    → IsKept a → slice_get a.sent k ≡ Some item → datagram ≡ item.datagram
    → GateSteps a.gate gate (arrives_at (gate_setup_of a.gate) face (segment_of datagram) a.moment) effects → IsGateBounded gate
    → OnOk result (c ≡ with_sent (record a { gate = gate }) (map routed_from effects.out))
    → IfOk result (λ told. told ≡ gate_told (numbered (length a.sent) (map routed_from effects.out)) effects.ups effects.notes)
    → IfOk result (λ told. (d : Sent) → slice_get a.sent k ≡ Some d → Does a c (hears_as (setup_in a) (at_gate face) (segment_of d.datagram)) told)
gate-heard-if face a gate c k item datagram effects (Err e) kept got is steps bounds sent told = tt
gate-heard-if face a gate c k item datagram effects (Ok x) kept got is steps bounds sent told =
    λ d found. subst (λ octets. Does a c (hears_as (setup_in a) (at_gate face) (segment_of octets)) x) (is ∙ ap (λ (i : Sent). i.datagram) (some-same item d a.sent k got found))
    (gate-heard face a (record a { gate = gate }) c (segment_of datagram) a.moment effects x steps bounds (record { old_node = refl; new_node = refl; moment = refl; sent = refl }) kept refl sent told)

pub gate-ticked-if : {E : Type 0} (a : Parts) (gate : GatewayValue) (c : Parts) (effects : GateEffects) (result : Result PathEffects E) → IsKept a
    → GateSteps a.gate gate (ticks_gate (gate_setup_of a.gate) a.moment) effects → IsGateBounded gate
    → OnOk result (c ≡ with_sent (record a { gate = gate }) (map routed_from effects.out))
    → IfOk result (λ told. told ≡ gate_told (numbered (length a.sent) (map routed_from effects.out)) effects.ups effects.notes)
    → IfOk result (Does a c (gate_ticks (setup_in a) a.moment))
gate-ticked-if a gate c effects (Err e) kept steps bounds sent told = tt
gate-ticked-if a gate c effects (Ok x) kept steps bounds sent told =
    gate-ticked a (record a { gate = gate }) c a.moment effects x steps bounds (record { old_node = refl; new_node = refl; moment = refl; sent = refl }) kept refl sent told

-- what was sent comes to the place across its link
pub delivered-if : {E : Type 0} (a c : Parts) (k : ℕ) (item : Sent) (stand : Stand) (result : Result PathEffects E) → IsWhole a → slice_get a.sent k ≡ Some item
    → stand_of (across item.from) ≡ stand
    → IfOk result (λ effects. (d : Sent) → slice_get a.sent k ≡ Some d → Does a c (hears_as (setup_in a) stand (segment_of d.datagram)) effects)
    → IfOk result (Did a c (delivers k))
delivered-if a c k item stand (Err e) whole got is does = tt
delivered-if a c k item stand (Ok effects) whole got is does =
    delivered a c k item effects whole got (subst (λ s. Does a c (hears_as (setup_in a) s (segment_of item.datagram)) effects) (sym is) (does item got))

pub clock-if : {E : Type 0} (a b c d : Parts) (now : ℕ) (old gate new rest : PathEffects) (result : Result PathEffects E) → IsWhole a → a.moment ≤ now
    → Does (record a { moment = now }) b (node_ticks (setup_in (record a { moment = now })) now ends.Old) old
    → Does b c (gate_ticks (setup_in b) b.moment) gate → Does c d (node_ticks (setup_in c) c.moment ends.New) new → rest ≡ both_told gate new
    → IfOk result (λ all. all ≡ both_told old rest) → IfOk result (Did a d (clock_shows now))
clock-if a b c d now old gate new rest (Err e) whole later first second third rest_is all = tt
clock-if a b c d now old gate new rest (Ok all) whole later first second third rest_is all_is =
    clock-happened a b c d now old gate new rest all whole later first second third rest_is all_is
