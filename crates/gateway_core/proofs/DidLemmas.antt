-- What the code did is the step of the definition.

use Rattle.std.proofs.Common.{◌≡◌, ℕ, ◌+◌, ◌<◌, ◌≤◌, ◌^◌, false, nat_le, min, List, [], ◌∷◌, ◌++◌, map, length, take, get_or, Option, None, Some, Result, Ok, Err, IfOk, OnOk, refl, sym, ◌∙◌, ap, subst, arith}
use Rattle.std.proofs.lemmas.Bool.Decides.{nat_tests}
use Rattle.std.proofs.lemmas.List.{map-append, take_more}
use Rattle.std.proofs.lemmas.Result.{IfOk-weaker}
use Rattle.std.specs.declared.alloc.AllocError.{AllocError}
use Rattle.ltp_segment.specs.Policy.{PolicyValue}
use Rattle.ltp_segment.specs.Reading.{segment_of}
use Rattle.ltp_session.specs.Engine.{Party, Engine, EngineStep, UpValue, starts, datagram_step, tick_step, earlier}
use Rattle.ltp_engine.specs.declared.effects.Effects.{Effects}
use Rattle.ltp_engine.specs.declared.effects.Up.{Up}
use Rattle.ltp_engine.specs.Effects.{effects_of, up_of, nothing_done}
use Rattle.ltp_engine.specs.Bounds.{IsBounded}
use Rattle.ltp_engine.specs.Shows.{Shows}
use Rattle.ltp_engine.specs.Steps.{Steps, deadline_of, is_due_at}
use Rattle.ltp_engine.specs.Values.{EngineValue}
use Rattle.ltp_engine.proofs.QuietLemmas.{quiet-steps}
use Rattle.gate_cases.specs.declared.face.Face.{Face}
use Rattle.gate_cases.specs.declared.face.Face.TheVariants as faces
use Rattle.gateway_core.specs.declared.effects.GateEffects.{GateEffects}
use Rattle.gateway_core.specs.declared.note.GateNote.{GateNote}
use Rattle.gateway_core.specs.declared.parts.Parts.{Parts}
use Rattle.gateway_core.specs.Gate.{Gate, GateSetup, GateStep, at_face, stays_so, and_then, in_turn, does_at, noted_at, hears_at, passes_at, arrives_at, ticks_at, ticks_gate, starts_gate}
use Rattle.gateway_core.specs.Config.{IsGateConfig}
use Rattle.gateway_core.specs.Effects.{gate_effects_of, nothing_routed, only_noted_at, routed_at, joined_with}
use Rattle.gateway_core.specs.Values.{GatewayValue, setup_of, new_gateway, gate_deadline}
use Rattle.gateway_core.specs.Shows.{ShowsGate}
use Rattle.gateway_core.specs.Steps.{GateSteps}
use Rattle.gateway_core.specs.Ties.{live, setup_in, IsWhole, Did, DidAt, SameBut, engine_at, up_value, up_values}
use Rattle.gateway_core.proofs.GateLemmas.{in_turn-push, spelled-more, spelled-at}

-- ---- steps one after the other

pub did-nothing : (p : Parts) → IsWhole p → Did p p stays_so nothing_routed
did-nothing p whole = record {
  whole = whole;
  steps = record { whole = refl; setup = refl; next = λ g shows. shows; effects_are = λ g shows. refl };
}

pub did-note : (p : Parts) (face : Face) (note : GateNote) → IsWhole p → Did p p (noted_at face note) (only_noted_at face note)
did-note p face note whole = record {
  whole = whole;
  steps = record { whole = refl; setup = refl; next = λ g shows. shows; effects_are = λ g shows. refl };
}

-- a step that is the same for each gate that the parts stand for
pub did-same : (a b : Parts) (f h : Gate → GateStep) (e : GateEffects) → ((g : Gate) → ShowsGate (live a) g → f g ≡ h g) → Did a b f e → Did a b h e
did-same a b f h e same did = record {
  whole = did.whole;
  steps = record {
    whole = did.steps.whole;
    setup = did.steps.setup;
    next = λ g shows. subst (λ (s : GateStep). ShowsGate (live b) s.gate) (same g shows) (did.steps.next g shows);
    effects_are = λ g shows. did.steps.effects_are g shows ∙ ap (λ (s : GateStep). gate_effects_of s.effects) (same g shows);
  };
}

pub did-then : (a b c : Parts) (f : Gate → GateStep) (h : GateSetup → Gate → GateStep) (e1 e2 : GateEffects)
    → Did a b f e1 → Did b c (h (setup_in b)) e2 → Did a c (λ g. and_then (f g) (h (setup_in a))) (joined_with e1 e2)
unfolding and_then
did-then a b c f h e1 e2 first second = record {
  whole = second.whole;
  steps = record {
    whole = second.steps.whole;
    setup = second.steps.setup ∙ first.steps.setup;
    next = λ g shows. subst (λ s. ShowsGate (live c) (h s (f g).gate).gate) first.steps.setup (second.steps.next (f g).gate (first.steps.next g shows));
    effects_are = λ g shows.
        ap (λ e. joined_with e e2) (first.steps.effects_are g shows)
        ∙ (ap (joined_with (gate_effects_of (f g).effects)) (second.steps.effects_are (f g).gate (first.steps.next g shows))
        ∙ (spelled-more (f g).effects (h (setup_in b) (f g).gate).effects
        ∙ ap (λ s. gate_effects_of (and_then (f g) (h s)).effects) first.steps.setup));
  };
}

-- one more of a list
pub did-more : {X : Type 0} (does : GateSetup → X → Gate → GateStep) (a b c : Parts) (xs : List X) (x : X) (e1 e2 : GateEffects)
    → Did a b (in_turn (does (setup_in a)) xs) e1 → Did b c (does (setup_in b) x) e2
    → Did a c (in_turn (does (setup_in a)) (xs ++ x ∷ [])) (joined_with e1 e2)
did-more does a b c xs x e1 e2 first second =
    did-same a c (λ g. and_then (in_turn (does (setup_in a)) xs g) (does (setup_in a) x)) (in_turn (does (setup_in a)) (xs ++ x ∷ [])) (joined_with e1 e2)
    (λ g shows. sym (in_turn-push (does (setup_in a)) xs x g))
    (did-then a b c (in_turn (does (setup_in a)) xs) (λ s. does s x) e1 e2 first second)

pub did-none : {X : Type 0} (does : X → Gate → GateStep) (p : Parts) → IsWhole p → Did p p (in_turn does []) nothing_routed
unfolding in_turn
did-none does p whole = did-nothing p whole

-- ---- an engine's step

pub did-at : (a b : Parts) (face : Face) (step : Gate → EngineStep) (told : Effects) → DidAt a b face step told
    → Did a b (λ g. does_at face g (step g)) (routed_at face told)
did-at a b face step told did = record {
  whole = did.whole;
  steps = record {
    whole = refl;
    setup = did.setup;
    next = did.next;
    effects_are = λ g shows. ap (routed_at face) (did.told_is g shows) ∙ spelled-at face (step g);
  };
}

-- what hearing hands up, as the definition's
pub ups-heard : (ups : List UpValue) → up_values (map up_of ups) ≡ ups
ups-heard [] = refl
ups-heard (up ∷ ups) = let rest = ups-heard ups in rw rest refl

-- ---- the engine of a face

abbrev StepsAt : Face → Parts → Parts → (Engine → EngineStep) → Effects → Type 0
StepsAt face a b step told = Steps (engine_at a face) (engine_at b face) step told

shows-stepped : (face : Face) (a b : Parts) (step : Engine → EngineStep) (told : Effects) → SameBut face a b → StepsAt face a b step told
    → (g : Gate) → ShowsGate (live a) g → ShowsGate (live b) (does_at face g (step (at_face g.engines face))).gate
shows-stepped faces.Old a b step told same steps g shows = record {
  old_face = steps.next g.engines.0 shows.old_face;
  new_face = subst (λ v. Shows v g.engines.1) (sym same.other) shows.new_face;
  counter = shows.counter ∙ sym same.counter;
}
shows-stepped faces.New a b step told same steps g shows = record {
  old_face = subst (λ v. Shows v g.engines.0) (sym same.other) shows.old_face;
  new_face = steps.next g.engines.1 shows.new_face;
  counter = shows.counter ∙ sym same.counter;
}

config-after : (face : Face) (a b : Parts) → IsWhole a → SameBut face a b → IsGateConfig b.gate b.cut
config-after face a b whole same = subst (λ gate. IsGateConfig gate b.cut) (sym same.gate) (subst (λ cut. IsGateConfig a.gate cut) (sym same.cut) whole.config)

-- what a step leaves whole, where a gate is shown after it
pub whole-after : (face : Face) (a b : Parts) → IsWhole a → SameBut face a b → (engine_at b face).spent ≡ false → (engine_at b face).party ≡ (engine_at a face).party
    → IsBounded (engine_at b face) → (g : Gate) → ShowsGate (live b) g → IsWhole b
whole-after faces.Old a b whole same unspent party bounds g shows = record {
  old_face = unspent;
  new_face = ap (λ (v : EngineValue). v.spent) same.other ∙ whole.new_face;
  old_most = ap (λ (p : Party). p.most) party ∙ whole.old_most;
  new_most = ap (λ (v : EngineValue). v.party.most) same.other ∙ whole.new_most;
  old_sessions = ap (λ (p : Party). p.sessions) party ∙ whole.old_sessions;
  new_sessions = ap (λ (v : EngineValue). v.party.sessions) same.other ∙ whole.new_sessions;
  config = config-after faces.Old a b whole same;
  bounds = record {
    old_face = bounds;
    new_face = subst IsBounded (sym same.other) whole.bounds.new_face;
    counter = subst (λ n. n ≤ 2 ^ 32) (sym same.counter) whole.bounds.counter;
  };
  gate = g;
  shows = shows;
}
whole-after faces.New a b whole same unspent party bounds g shows = record {
  old_face = ap (λ (v : EngineValue). v.spent) same.other ∙ whole.old_face;
  new_face = unspent;
  old_most = ap (λ (v : EngineValue). v.party.most) same.other ∙ whole.old_most;
  new_most = ap (λ (p : Party). p.most) party ∙ whole.new_most;
  old_sessions = ap (λ (v : EngineValue). v.party.sessions) same.other ∙ whole.old_sessions;
  new_sessions = ap (λ (p : Party). p.sessions) party ∙ whole.new_sessions;
  config = config-after faces.New a b whole same;
  bounds = record {
    old_face = subst IsBounded (sym same.other) whole.bounds.old_face;
    new_face = bounds;
    counter = subst (λ n. n ≤ 2 ^ 32) (sym same.counter) whole.bounds.counter;
  };
  gate = g;
  shows = shows;
}

pub setup-after : (face : Face) (a b : Parts) → SameBut face a b → (engine_at b face).party ≡ (engine_at a face).party → setup_in b ≡ setup_in a
setup-after faces.Old a b same party = rw (party, same.other, same.gate, same.cut) refl
setup-after faces.New a b same party = rw (party, same.other, same.gate, same.cut) refl

told-stepped : (face : Face) (a b : Parts) (step : Engine → EngineStep) (told : Effects) → StepsAt face a b step told
    → (g : Gate) → ShowsGate (live a) g → told ≡ effects_of (step (at_face g.engines face)).effects
told-stepped faces.Old a b step told steps g shows = steps.effects_are g.engines.0 shows.old_face
told-stepped faces.New a b step told steps g shows = steps.effects_are g.engines.1 shows.new_face

pub stepped : (face : Face) (a b : Parts) (step : Engine → EngineStep) (told : Effects) → IsWhole a → SameBut face a b → StepsAt face a b step told → IsBounded (engine_at b face)
    → DidAt a b face (λ g. step (at_face g.engines face)) told
stepped face a b step told whole same steps bounds = record {
  whole = whole-after face a b whole same steps.whole steps.party bounds
      (does_at face whole.gate (step (at_face whole.gate.engines face))).gate (shows-stepped face a b step told same steps whole.gate whole.shows);
  setup = setup-after face a b same steps.party;
  next = shows-stepped face a b step told same steps;
  told_is = told-stepped face a b step told steps;
}

-- ---- as the code has it

abbrev pub EndsIn : Parts → Parts → (Gate → GateStep) → Result GateEffects AllocError → Type 0
EndsIn a b step r = IfOk r (Did a b step)

pub did-result : (a b : Parts) (f : Gate → GateStep) (e : GateEffects) (r : Result GateEffects AllocError) → Did a b f e → IfOk r (λ x. x ≡ e) → EndsIn a b f r
did-result a b f e (Ok x) did is = subst (Did a b f) (sym is) did
did-result a b f e (Err x) did is = tt

-- an engine hears a datagram
pub heard : (at face : Face) (a b : Parts) (datagram : List ℕ) (now : ℕ) (r : Result Effects AllocError) → at ≡ face → IsWhole a → SameBut face a b
    → IfOk r (StepsAt face a b (λ e. datagram_step (engine_at a face).party e (segment_of datagram) now)) → OnOk r (IsBounded (engine_at b face))
    → IfOk r (DidAt a b at (λ g. hears_at (setup_in a) at g (segment_of datagram) now))
heard at face a b datagram now (Err x) is whole same steps bounds = tt
heard at faces.Old a b datagram now (Ok told) is whole same steps bounds =
    subst (λ f. DidAt a b f (λ g. hears_at (setup_in a) f g (segment_of datagram) now) told) (sym is)
    (stepped faces.Old a b (λ e. datagram_step a.old_face.party e (segment_of datagram) now) told whole same steps bounds)
heard at faces.New a b datagram now (Ok told) is whole same steps bounds =
    subst (λ f. DidAt a b f (λ g. hears_at (setup_in a) f g (segment_of datagram) now) told) (sym is)
    (stepped faces.New a b (λ e. datagram_step a.new_face.party e (segment_of datagram) now) told whole same steps bounds)

-- nothing is done for an empty list
pub did-none-yet : {X : Type 0} (does : X → Gate → GateStep) (p : Parts) (e : GateEffects) → IsWhole p → e ≡ nothing_routed → Did p p (in_turn does []) e
did-none-yet does p e whole is = subst (Did p p (in_turn does [])) (sym is) (did-none does p whole)

-- blocks that came whole, one after the other
pub passes-more : (face : Face) (now : ℕ) (a b c : Parts) (ups : List Up) (i : ℕ) (up : Up) (block : List ℕ) (passed more all : GateEffects)
    → i < length ups → up ≡ get_or ups i up → block ≡ up.body
    → Did a b (in_turn (passes_at (setup_in a) face now) (up_values (take i ups))) passed
    → Did b c (passes_at (setup_in b) face now (record { session = up.session; body = block })) more
    → all ≡ joined_with passed more
    → Did a c (in_turn (passes_at (setup_in a) face now) (up_values (take (i + 1) ups))) all
passes-more face now a b c ups i up block passed more all inside is body first second joined =
    subst (Did a c (in_turn (passes_at (setup_in a) face now) (up_values (take (i + 1) ups)))) (sym joined)
    (subst (λ us. Did a c (in_turn (passes_at (setup_in a) face now) us) (joined_with passed more)) (sym taken)
    (did-more (λ s. passes_at s face now) a b c (up_values (take i ups)) (up_value up) passed more first
    (subst (λ body. Did b c (passes_at (setup_in b) face now (record { session = up.session; body = body })) more) body second)))
  where
    taken : up_values (take (i + 1) ups) ≡ up_values (take i ups) ++ up_value up ∷ []
    taken =
        ap up_values (take_more ups i up inside ∙ ap (λ x. take i ups ++ x ∷ []) (sym is))
        ∙ map-append up_value (take i ups) (up ∷ [])

-- a datagram came
pub arrived : (a b c : Parts) (face : Face) (datagram : List ℕ) (now : ℕ) (told : Effects) (ups : List Up) (passed heard_it : GateEffects) (r : Result GateEffects AllocError)
    → DidAt a b face (λ g. hears_at (setup_in a) face g (segment_of datagram) now) told → ups ≡ told.ups
    → Did b c (in_turn (passes_at (setup_in b) face now) (up_values ups)) passed → heard_it ≡ routed_at face told
    → IfOk r (λ all. all ≡ joined_with heard_it passed)
    → EndsIn a c (arrives_at (setup_in a) face (segment_of datagram) now) r
unfolding arrives_at
arrived a b c face datagram now told ups passed heard_it r did same rest is all =
    did-result a c (arrives_at (setup_in a) face (segment_of datagram) now) (joined_with (routed_at face told) passed) r
    (did-same a c (λ g. and_then (does_at face g (hears_at (setup_in a) face g (segment_of datagram) now)) (in_turn (passes_at (setup_in a) face now) (up_values ups)))
    (arrives_at (setup_in a) face (segment_of datagram) now) (joined_with (routed_at face told) passed)
    (λ g shows. ap (λ us. and_then (does_at face g (hears_at (setup_in a) face g (segment_of datagram) now)) (in_turn (passes_at (setup_in a) face now) us)) (ups-are g shows))
    (did-then a b c (λ g. does_at face g (hears_at (setup_in a) face g (segment_of datagram) now)) (λ s. in_turn (passes_at s face now) (up_values ups)) (routed_at face told) passed
    (did-at a b face (λ g. hears_at (setup_in a) face g (segment_of datagram) now) told did) rest))
    (IfOk-weaker r (λ all. all ≡ joined_with heard_it passed) (λ all. all ≡ joined_with (routed_at face told) passed) (λ all eq. eq ∙ ap (λ h. joined_with h passed) is) all)
  where
    ups-are : (g : Gate) → ShowsGate (live a) g → up_values ups ≡ (hears_at (setup_in a) face g (segment_of datagram) now).effects.ups
    ups-are g shows =
        ap up_values (same ∙ ap (λ (e : Effects). e.ups) (did.told_is g shows))
        ∙ ups-heard (hears_at (setup_in a) face g (segment_of datagram) now).effects.ups

-- both faces tick
pub ticked-both : (a b c : Parts) (now : ℕ) (old new : Effects) (first second : GateEffects) (r : Result GateEffects AllocError) → IsWhole a
    → SameBut faces.Old a b → SameBut faces.New b c
    → StepsAt faces.Old a b (λ e. tick_step a.old_face.party e now) old → IsBounded b.old_face
    → StepsAt faces.New b c (λ e. tick_step b.new_face.party e now) new → IsBounded c.new_face
    → first ≡ routed_at faces.Old old → second ≡ routed_at faces.New new → IfOk r (λ all. all ≡ joined_with first second)
    → EndsIn a c (ticks_gate (setup_in a) now) r
unfolding ticks_gate
ticked-both a b c now old new first second r whole same_new same_old old_steps old_bounds new_steps new_bounds firsts seconds all =
    let one = stepped faces.Old a b (λ e. tick_step a.old_face.party e now) old whole same_new old_steps old_bounds in
    let two = stepped faces.New b c (λ e. tick_step b.new_face.party e now) new one.whole same_old new_steps new_bounds in
    did-result a c (ticks_gate (setup_in a) now) (joined_with (routed_at faces.Old old) (routed_at faces.New new)) r
    (did-then a b c (ticks_at (setup_in a) now faces.Old) (λ s. ticks_at s now faces.New) (routed_at faces.Old old) (routed_at faces.New new)
    (did-at a b faces.Old (λ g. tick_step a.old_face.party g.engines.0 now) old one)
    (did-at b c faces.New (λ g. tick_step b.new_face.party g.engines.1 now) new two))
    (IfOk-weaker r (λ all. all ≡ joined_with first second) (λ all. all ≡ joined_with (routed_at faces.Old old) (routed_at faces.New new))
    (λ all eq. eq ∙ rw (firsts, seconds) refl) all)

-- neither ticks, where no timer is due
quiet-both : (now : ℕ) (a b : Option ℕ) → is_due_at now (earlier a b) ≡ false → (is_due_at now a ≡ false) × (is_due_at now b ≡ false)
quiet-both now None b is = (refl, is)
quiet-both now (Some a) None is = (is, refl)
quiet-both now (Some a) (Some b) is =
    let later = after_now now (min a b) is in
    (not_yet now a (omega (arith, later)), not_yet now b (omega (arith, later)))
  where
    after_now : (now n : ℕ) → nat_le n now ≡ false → now < n
    after_now now n is = grind (arith, nat_tests)

    not_yet : (now n : ℕ) → now < n → nat_le n now ≡ false
    not_yet now n is = grind (arith, nat_tests)

pub ticks-nothing : (p : Parts) (v : GatewayValue) (now : ℕ) (told : GateEffects) → live p ≡ v → IsWhole p → is_due_at now (gate_deadline (live p)) ≡ false
    → told ≡ nothing_routed → GateSteps v v (ticks_gate (setup_of v) now) told
unfolding ticks_gate
ticks-nothing p v now told same whole early is =
    subst (λ u. GateSteps u u (ticks_gate (setup_of u) now) told) same
    (subst (GateSteps (live p) (live p) (ticks_gate (setup_in p) now)) (sym is)
    (did-then p p p (ticks_at (setup_in p) now faces.Old) (λ s. ticks_at s now faces.New) nothing_routed nothing_routed
    (did-at p p faces.Old (λ g. tick_step p.old_face.party g.engines.0 now) nothing_done old_one)
    (did-at p p faces.New (λ g. tick_step p.new_face.party g.engines.1 now) nothing_done new_one)).steps)
  where
    both : (is_due_at now (deadline_of p.old_face) ≡ false) × (is_due_at now (deadline_of p.new_face) ≡ false)
    both = quiet-both now (deadline_of p.old_face) (deadline_of p.new_face) early

    as_it_was : (face : Face) → SameBut face p p
    as_it_was face = record { other = refl; gate = refl; cut = refl; counter = refl }

    old_one : DidAt p p faces.Old (λ g. tick_step p.old_face.party g.engines.0 now) nothing_done
    old_one = stepped faces.Old p p (λ e. tick_step p.old_face.party e now) nothing_done whole (as_it_was faces.Old)
        (quiet-steps p.old_face p.old_face now refl whole.old_face both.0) whole.bounds.old_face

    new_one : DidAt p p faces.New (λ g. tick_step p.new_face.party g.engines.1 now) nothing_done
    new_one = stepped faces.New p p (λ e. tick_step p.new_face.party e now) nothing_done whole (as_it_was faces.New)
        (quiet-steps p.new_face p.new_face now refl whole.new_face both.1) whole.bounds.new_face

-- ---- the beginning

pub whole-new : (p : Parts) (policy : PolicyValue) → live p ≡ new_gateway p.gate policy p.cut → IsGateConfig p.gate p.cut
    → Shows p.old_face (starts p.old_face.party) → Shows p.new_face (starts p.new_face.party) → IsBounded p.old_face → IsBounded p.new_face → IsWhole p
whole-new p policy is config old_shows new_shows old_bounds new_bounds = record {
  old_face = ap (λ (v : GatewayValue). v.engines.0.spent) is;
  new_face = ap (λ (v : GatewayValue). v.engines.1.spent) is;
  old_most = ap (λ (v : GatewayValue). v.engines.0.party.most) is;
  new_most = ap (λ (v : GatewayValue). v.engines.1.party.most) is;
  old_sessions = ap (λ (v : GatewayValue). v.engines.0.party.sessions) is;
  new_sessions = ap (λ (v : GatewayValue). v.engines.1.party.sessions) is;
  config = config;
  bounds = record {
    old_face = old_bounds;
    new_face = new_bounds;
    counter = subst (λ n. n ≤ 2 ^ 32) (sym (ap (λ (v : GatewayValue). v.counter) is)) (omega arith);
  };
  gate = starts_gate (setup_in p);
  shows = record { old_face = old_shows; new_face = new_shows; counter = sym (ap (λ (v : GatewayValue). v.counter) is) };
}
