-- What a gateway wants memory for: for no datagram of which a face's engine makes a quiet step.

use Rattle.std.proofs.Common.{◌≡◌, ℕ, Bool, true, false, ◌==◌, ◌&&◌, List, [], ◌∷◌, length, arith, refl, sym, ◌∙◌, subst}
use Rattle.std.proofs.lemmas.Bool.{eqb-true}
use Rattle.std.proofs.lemmas.List.{append-nil}
use Rattle.ltp_segment.specs.Reading.{segment_of}
use Rattle.ltp_session.specs.Engine.{Engine, EngineStep, datagram_step}
use Rattle.ltp_engine.specs.declared.effects.Effects.{Effects}
use Rattle.ltp_engine.specs.declared.effects.Up.{Up}
use Rattle.ltp_engine.specs.Effects.{effects_of}
use Rattle.ltp_engine.specs.Quiet.{IsQuiet, IsNeverQuiet}
use Rattle.gate_cases.specs.declared.face.Face.{Face}
use Rattle.gate_cases.specs.declared.face.Face.TheVariants as faces
use Rattle.gateway_core.specs.declared.effects.GateEffects.{GateEffects}
use Rattle.gateway_core.specs.declared.parts.Parts.{Parts}
use Rattle.gateway_core.specs.Gate.{Gate, at_face, in_turn, hears_at, passes_at}
use Rattle.gateway_core.specs.Effects.{gate_effects_of, nothing_routed, joined_with}
use Rattle.gateway_core.specs.Quiet.{IsNeverQuietAt, IsQuietTold}
use Rattle.gateway_core.specs.Ties.{live, setup_in, Did, DidAt, engine_at, up_values}

-- ---- effects after others

no-items : {X : Type 0} (xs : List X) → (length xs == 0) ≡ true → xs ≡ []
no-items [] is = refl
no-items (x ∷ xs) is = let none : length (x ∷ xs) ≡ 0 = eqb-true (length (x ∷ xs)) 0 is in absurd (omega (arith, none))

both : (a b : Bool) → (a && b) ≡ true → (a ≡ true) × (b ≡ true)
both true true is = (refl, refl)
both true false is = absurd (cc)
both false b is = absurd (cc)

pub nothing-of : (e : GateEffects) → (((length e.out == 0) && (length e.ups == 0)) && (length e.notes == 0)) ≡ true → e ≡ nothing_routed
nothing-of e is =
    let (front, notes) = both _ _ is in
    let (out, ups) = both _ _ front in
    rw (no-items e.out out, no-items e.ups ups, no-items e.notes notes) refl

pub joined-none : (first more : GateEffects) → more ≡ nothing_routed → first ≡ joined_with first more
joined-none first more is = rw (is, append-nil first.out, append-nil first.ups, append-nil first.notes) refl

pub not-nothing : (e : GateEffects) → (((length e.out == 0) && (length e.ups == 0)) && (length e.notes == 0)) ≡ false → e ≡ nothing_routed → ⊥
not-nothing e some is = differ (subst (λ (x : GateEffects). (((length x.out == 0) && (length x.ups == 0)) && (length x.notes == 0)) ≡ false) is some) where
  differ : true ≡ false → ⊥
  differ is = cc

-- ---- a datagram

pub hears-wants : (at face : Face) (a : Parts) (datagram : List ℕ) (now : ℕ) → at ≡ face
    → IsNeverQuiet (engine_at a face) (λ e. datagram_step (engine_at a face).party e (segment_of datagram) now)
    → IsNeverQuietAt (live a) at (λ g. hears_at (setup_in a) at g (segment_of datagram) now)
hears-wants at faces.Old a datagram now is never =
    subst (λ f. IsNeverQuietAt (live a) f (λ g. hears_at (setup_in a) f g (segment_of datagram) now)) (sym is)
    (λ g shows quiet. never g.engines.0 shows.old_face quiet)
hears-wants at faces.New a datagram now is never =
    subst (λ f. IsNeverQuietAt (live a) f (λ g. hears_at (setup_in a) f g (segment_of datagram) now)) (sym is)
    (λ g shows quiet. never g.engines.1 shows.new_face quiet)

told-quiet : (told : Effects) (e : Engine) (step : EngineStep) → told ≡ effects_of step.effects → IsQuiet e step → IsQuietTold told
told-quiet told e step is quiet = subst IsQuietTold (sym is) (record { out = rw quiet.out refl; ups = rw quiet.ups refl; notes = quiet.notes })

pub told-wants : (a b : Parts) (face : Face) (step : Gate → EngineStep) (told : Effects) → DidAt a b face step told
    → (IsQuietTold told → ⊥) → IsNeverQuietAt (live a) face step
told-wants a b face step told did loud g shows quiet = loud (told-quiet told (at_face g.engines face) (step g) (did.told_is g shows) quiet)

pub ups-wants : (a b : Parts) (face : Face) (step : Gate → EngineStep) (told : Effects) (ups : List Up) → DidAt a b face step told
    → ups ≡ told.ups → (ups ≡ [] → ⊥) → IsNeverQuietAt (live a) face step
ups-wants a b face step told ups did same some = told-wants a b face step told did (λ quiet. some (same ∙ quiet.ups))

pub passed-wants : (a b c : Parts) (face : Face) (now : ℕ) (step : Gate → EngineStep) (told : Effects) (ups : List Up) (passed : GateEffects)
    → DidAt a b face step told → ups ≡ told.ups → Did b c (in_turn (passes_at (setup_in b) face now) (up_values ups)) passed
    → (passed ≡ nothing_routed → ⊥) → IsNeverQuietAt (live a) face step
unfolding in_turn
passed-wants a b c face now step told ups passed did same rest some =
    told-wants a b face step told did (λ quiet. some (rest.steps.effects_are did.whole.gate did.whole.shows ∙ none ups (same ∙ quiet.ups)))
  where
    none : (ups : List Up) → ups ≡ [] → gate_effects_of (in_turn (passes_at (setup_in b) face now) (up_values ups) did.whole.gate).effects ≡ nothing_routed
    none ups is = rw is refl
