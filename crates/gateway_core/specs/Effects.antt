-- What a call of the gateway is to have done, as datagrams.

use Rattle.std.specs.Prelude.{ℕ, List, [], ◌∷◌, ◌++◌, map}
use Rattle.ltp_segment.specs.Spelling.{segment_octets}
use Rattle.ltp_engine.specs.declared.effects.Effects.{Effects}
use Rattle.ltp_engine.specs.declared.effects.Up.{Up}
use Rattle.gate_cases.specs.declared.face.Face.{Face}
use Rattle.gateway_core.specs.declared.effects.FaceUp.{FaceUp}
use Rattle.gateway_core.specs.declared.effects.Routed.{Routed}
use Rattle.gateway_core.specs.declared.effects.GateEffects.{GateEffects}
use Rattle.gateway_core.specs.declared.note.GateNote.{GateNote}
use Rattle.gateway_core.specs.Gate.{RoutedValue, GateEffectsValue, note_at, engine_note_at}

abbrev pub routed_of : RoutedValue → Routed
routed_of r = record { face = r.face; datagram = segment_octets r.segment }

-- the effects of a step of the definition: each segment as its octets
abbrev pub gate_effects_of : GateEffectsValue → GateEffects
gate_effects_of e = record { out = map routed_of e.out; ups = e.ups; notes = e.notes }

-- ---- the same as the code makes them

abbrev pub nothing_routed : GateEffects
nothing_routed = record { out = []; ups = []; notes = [] }

abbrev pub only_noted_at : Face → GateNote → GateEffects
only_noted_at face note =
    record { out = []; ups = []; notes = note_at face note ∷ [] }

abbrev pub datagram_at : Face → List ℕ → Routed
datagram_at face datagram = record { face = face; datagram = datagram }

abbrev pub told_at : Face → Up → FaceUp
told_at face up = record { face = face; session = up.session; body = up.body }

-- what an engine does is done at its face
abbrev pub routed_at : Face → Effects → GateEffects
routed_at face told = record {
  out = map (datagram_at face) told.out;
  ups = map (told_at face) told.ups;
  notes = map (engine_note_at face) told.notes;
}

-- effects, and others after them
abbrev pub joined_with : GateEffects → GateEffects → GateEffects
joined_with first more = record {
  out = first.out ++ more.out;
  ups = first.ups ++ more.ups;
  notes = first.notes ++ more.notes;
}
