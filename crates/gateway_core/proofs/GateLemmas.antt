-- Steps of a gate one after the other.

use Rattle.std.proofs.Common.{◌≡◌, List, [], ◌∷◌, ◌++◌, map, refl, ◌∙◌, ap}
use Rattle.std.proofs.lemmas.List.{append-nil, append_assoc, map-append}
use Rattle.ltp_segment.specs.Spelling.{segment_octets}
use Rattle.ltp_engine.specs.Effects.{effects_of, up_of}
use Rattle.ltp_session.specs.Engine.{EngineStep, UpValue}
use Rattle.ltp_segment.specs.Values.{SegmentValue}
use Rattle.gate_cases.specs.declared.face.Face.{Face}
use Rattle.gateway_core.specs.Gate.{Gate, GateStep, GateEffectsValue, no_effects, with_more, after_these, and_then, in_turn, effects_at, segment_at, up_at}
use Rattle.gateway_core.specs.Effects.{routed_of, gate_effects_of, routed_at, joined_with, datagram_at, told_at}

-- ---- effects one after the other

more-none : (e : GateEffectsValue) → with_more e no_effects ≡ with_more no_effects e
more-none e = rw (append-nil e.out, append-nil e.ups, append-nil e.notes) refl

more-assoc : (a b c : GateEffectsValue) → with_more a (with_more b c) ≡ with_more (with_more a b) c
more-assoc a b c = rw (append_assoc a.out b.out c.out, append_assoc a.ups b.ups c.ups, append_assoc a.notes b.notes c.notes) refl

-- ---- a step for each of a list

pub in_turn-push : {X : Type 0} (does : X → Gate → GateStep) (xs : List X) (x : X) (g : Gate)
    → in_turn does (xs ++ x ∷ []) g ≡ and_then (in_turn does xs g) (does x)
unfolding in_turn and_then
in_turn-push does [] x g = ap (λ e. record { gate = (does x g).gate; effects = e }) (more-none (does x g).effects)
in_turn-push does (y ∷ ys) x g =
    let rest = in_turn-push does ys x (does y g).gate in
    ap (after_these (does y g).effects) rest
    ∙ ap (λ e. record { gate = (does x (in_turn does ys (does y g).gate).gate).gate; effects = e })
    (more-assoc (does y g).effects (in_turn does ys (does y g).gate).effects (does x (in_turn does ys (does y g).gate).gate).effects)

-- ---- the same as datagrams

pub spelled-more : (a b : GateEffectsValue) → joined_with (gate_effects_of a) (gate_effects_of b) ≡ gate_effects_of (with_more a b)
spelled-more a b = rw (map-append routed_of a.out b.out) refl

out-at : (face : Face) (out : List SegmentValue) → map (datagram_at face) (map segment_octets out) ≡ map routed_of (map (segment_at face) out)
out-at face [] = refl
out-at face (s ∷ out) = let rest = out-at face out in rw rest refl

ups-at : (face : Face) (ups : List UpValue) → map (told_at face) (map up_of ups) ≡ map (up_at face) ups
ups-at face [] = refl
ups-at face (up ∷ ups) = let rest = ups-at face ups in rw rest refl

pub spelled-at : (face : Face) (step : EngineStep) → routed_at face (effects_of step.effects) ≡ gate_effects_of (effects_at face step)
spelled-at face step = rw (out-at face step.effects.out, ups-at face step.effects.ups) refl
