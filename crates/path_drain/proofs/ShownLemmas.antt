-- What an engine notes and hands up at a delivery stands among the effects of the path.

use Rattle.std.proofs.Common.{◌≡◌, ℕ, [], ◌∷◌, ◌++◌, map, Ok}
use Rattle.std.proofs.Common.{inl, inr, refl, sym, ◌∙◌, ap, subst}
use Rattle.ltp_segment.specs.declared.session.Note.{Note}
use Rattle.ltp_segment.specs.declared.session.Note.TheVariants as notes
use Rattle.ltp_segment.specs.Values.{SegmentValue}
use Rattle.ltp_session.specs.Engine.{EffectsValue, EngineStep, UpValue, datagram_step}
use Rattle.ltp_session.specs.World.{End, at_end, other}
use Rattle.ltp_laws.specs.View.{IsIn}
use Rattle.ltp_laws.proofs.RunLemmas.{in-left}
use Rattle.ltp_drain.specs.Effects.{EndEffects, IsHandedUp, IsNoted}
use Rattle.gate_cases.specs.declared.face.Face.{Face}
use Rattle.gate_cases.specs.declared.face.Face.TheVariants as faces
use Rattle.gateway_core.specs.Gate.{GateStep, and_then, arrives_at, does_at, engine_note_at}
use Rattle.gateway_core.specs.Gate.{hears_at, in_turn, passes_at, up_at}
use Rattle.path_laws.specs.declared.places.Place.{Place}
use Rattle.path_laws.specs.declared.places.Place.TheVariants as places
use Rattle.path_laws.specs.Places.{across, face_place, link_end_of, link_of, stand_of}
use Rattle.path_laws.specs.Path.{PathSetup, Path, PathEffectsValue, SentFrom, comes_to, gate_does}
use Rattle.path_laws.specs.Path.{gate_note, gate_up, note_from, up_from}
use Rattle.path_laws.specs.Links.{link_engines, link_parties}
use Rattle.path_laws.proofs.ChunkLemmas.{place_at}
use Rattle.path_drain.specs.Effects.{IsNotedSent, IsUpAt}
use Rattle.path_drain.proofs.CaseNotes.{make-in}

-- ---- effects

-- what an engine does is done at a place
pub record Shows (place : Place) (e : EffectsValue) (effects : PathEffectsValue) : Type 0 where
  pub notes : (note : Note) → IsIn note e.notes → IsIn (note_from place note) effects.notes
  pub ups : (up : UpValue) → IsIn up e.ups → IsIn (up_from place up) effects.ups

gate-shows : (s : PathSetup) (w : Path) (face : Face) (segment : SegmentValue)
    → Shows (face_place face) (hears_at s.gate face w.gate (Ok segment) w.now).effects
    (gate_does w (arrives_at s.gate face (Ok segment) w.now w.gate)).effects
unfolding arrives_at and_then
gate-shows s w face segment = record { notes = noted; ups = handed }
  where
    step : EngineStep
    step = hears_at s.gate face w.gate (Ok segment) w.now

    later : GateStep
    later = in_turn (passes_at s.gate face w.now) step.effects.ups (does_at face w.gate step).gate

    noted : (note : Note) → IsIn note (hears_at s.gate face w.gate (Ok segment) w.now).effects.notes
        → IsIn (note_from (face_place face) note)
        (map gate_note (map (engine_note_at face) step.effects.notes ++ later.effects.notes))
    noted note is = make-in gate_note
        (map (engine_note_at face) step.effects.notes ++ later.effects.notes)
        (engine_note_at face note)
        (in-left (engine_note_at face note) (map (engine_note_at face) step.effects.notes)
        later.effects.notes (make-in (engine_note_at face) step.effects.notes note is))

    handed : (up : UpValue) → IsIn up (hears_at s.gate face w.gate (Ok segment) w.now).effects.ups
        → IsIn (up_from (face_place face) up)
        (map gate_up (map (up_at face) step.effects.ups ++ later.effects.ups))
    handed up is = make-in gate_up (map (up_at face) step.effects.ups ++ later.effects.ups)
        (up_at face up)
        (in-left (up_at face up) (map (up_at face) step.effects.ups) later.effects.ups
        (make-in (up_at face) step.effects.ups up is))

-- the step of the engine to which a segment comes
abbrev pub hearing : PathSetup → Path → SentFrom → EngineStep
hearing s w d =
    datagram_step (at_end (link_parties s (link_of d.from)) (other (link_end_of d.from)))
    (at_end (link_engines w (link_of d.from)) (other (link_end_of d.from))) (Ok d.segment) w.now

pub delivery-shows : (s : PathSetup) (w : Path) (d : SentFrom) → Shows (across d.from)
    (hearing s w d).effects (comes_to s w (stand_of (across d.from)) d.segment).effects
delivery-shows s w d = by d.from d.segment
  where
    To : Place → SegmentValue → Type 0
    To from segment = Shows (across from)
        (hearing s w (record { from = from; segment = segment })).effects
        (comes_to s w (stand_of (across from)) segment).effects

    by : (from : Place) (segment : SegmentValue) → To from segment
    by places.OldNode segment = gate-shows s w faces.Old segment
    by places.NewNode segment = gate-shows s w faces.New segment
    by places.OldFace segment = record {
      notes = make-in (note_from places.OldNode)
          (datagram_step s.nodes.0 w.nodes.0 (Ok segment) w.now).effects.notes;
      ups = make-in (up_from places.OldNode)
          (datagram_step s.nodes.0 w.nodes.0 (Ok segment) w.now).effects.ups;
    }
    by places.NewFace segment = record {
      notes = make-in (note_from places.NewNode)
          (datagram_step s.nodes.1 w.nodes.1 (Ok segment) w.now).effects.notes;
      ups = make-in (up_from places.NewNode)
          (datagram_step s.nodes.1 w.nodes.1 (Ok segment) w.now).effects.ups;
    }

-- ---- effects of a link

-- the place to which a segment comes
pub place-here : (from : Place) → place_at (link_of from) (other (link_end_of from)) ≡ across from
place-here places.OldNode = refl
place-here places.OldFace = refl
place-here places.NewFace = refl
place-here places.NewNode = refl

-- what the link's end does
abbrev pub heard_at : PathSetup → Path → SentFrom → EndEffects
heard_at s w d =
    record { end = other (link_end_of d.from); effects = (hearing s w d).effects }

pub noted-shown : (s : PathSetup) (w : Path) (d : SentFrom) (o : End) (n : ℕ)
    → IsNoted (heard_at s w d ∷ []) o (notes.Sent n)
    → IsNotedSent (comes_to s w (stand_of (across d.from)) d.segment).effects.notes
    (place_at (link_of d.from) o) n
noted-shown s w d o n is = by is.among
  where
    by : IsIn is.of (heard_at s w d ∷ [])
        → IsNotedSent (comes_to s w (stand_of (across d.from)) d.segment).effects.notes
        (place_at (link_of d.from) o) n
    by (inr none) = absurd none
    by (inl same) =
        let at : other (link_end_of d.from) ≡ o =
        ap (λ (e : EndEffects). e.end) same ∙ is.by in
        subst (λ (p : Place). IsNotedSent
        (comes_to s w (stand_of (across d.from)) d.segment).effects.notes p n)
        (sym (place-here d.from) ∙ ap (λ (e : End). place_at (link_of d.from) e) at)
        ((delivery-shows s w d).notes (notes.Sent n)
        (subst (λ (e : EndEffects). IsIn (notes.Sent n) e.effects.notes) (sym same) is.noted))

pub handed-shown : (s : PathSetup) (w : Path) (d : SentFrom) (o : End) (n : ℕ)
    → IsHandedUp (heard_at s w d ∷ []) o n
    → IsUpAt (comes_to s w (stand_of (across d.from)) d.segment).effects.ups
    (place_at (link_of d.from) o) n
handed-shown s w d o n is = by is.among
  where
    by : IsIn is.of (heard_at s w d ∷ [])
        → IsUpAt (comes_to s w (stand_of (across d.from)) d.segment).effects.ups
        (place_at (link_of d.from) o) n
    by (inr none) = absurd none
    by (inl same) =
        let at : other (link_end_of d.from) ≡ o =
        ap (λ (e : EndEffects). e.end) same ∙ is.by in
        record {
          up = up_from (across d.from) is.up;
          among = (delivery-shows s w d).ups is.up
              (subst (λ (e : EndEffects). IsIn is.up e.effects.ups) (sym same) is.handed);
          at = sym (place-here d.from) ∙ ap (λ (e : End). place_at (link_of d.from) e) at;
          session = is.session;
        }
