-- What a step of a gate among other implementations did, as far as the journal has to know it.

use Rattle.std.specs.Prelude.{ℕ, Bool, List, [], ◌∷◌, Option}
use Rattle.std.specs.List.{flat_map}
use Rattle.gate_cases.specs.declared.face.Face.{Face}
use Rattle.gateway_core.specs.declared.effects.FaceNote.{FaceNote}
use Rattle.gateway_core.specs.declared.effects.FaceUp.{FaceUp}
use Rattle.gateway_core.specs.declared.effects.Routed.{Routed}
use Rattle.gateway_core.specs.declared.note.GateNote.TheVariants as notes
use Rattle.gate_events.specs.declared.own.Own.{Own}
use Rattle.gate_events.specs.Own.{OpenAt}
use Rattle.gate_records.specs.Happened.{Happened}
use Rattle.peer_gateway.specs.Gate.{Told, FaceTold, AddedAt, BegunAt, told_engine, told_forgotten, told_green, told_began, told_bundle, told_case, told_left, told_reported, told_unreported, told_end}

pub record PeerHappened : Type 0 where
  -- what the wall clock shows
  pub wall : ℕ
  -- the own sessions that were open before it, and which are open after it
  pub own : List Own
  pub is_open : OpenAt
  -- which sessions of the peers are kept after it and were handed up, then or before
  pub is_handed_up : OpenAt
  -- what it sends, and what it tells
  pub out : List Routed
  pub told : List FaceTold
  -- the id of a piece of an earlier run, where the step was to add that one
  pub again : Option ℕ
  -- the pieces that were added, and the sessions that began
  pub added : List AddedAt
  pub begun : List BegunAt

-- ---- what it tells

-- what the engine of a face notes
abbrev pub note_of : Face → Told → List FaceNote
note_of face (told_engine note) = record { face = face; note = notes.Engine note } ∷ []
note_of face (told_forgotten runs) = []
note_of face (told_green green) = []
note_of face (told_began pieces octets session) = []
note_of face (told_bundle subject) = []
note_of face (told_case index session case pieces first) = []
note_of face (told_left index session left) = []
note_of face (told_reported index session report) = []
note_of face (told_unreported index session) = []
note_of face (told_end index session end) = []

-- A session's block came whole where a bundle of it, or the end of its row, is told of. Its octets don't
-- matter here.
abbrev pub up_of : Face → Told → List FaceUp
up_of face (told_engine note) = []
up_of face (told_forgotten runs) = []
up_of face (told_green green) = []
up_of face (told_began pieces octets session) = []
up_of face (told_bundle subject) = []
up_of face (told_case index session case pieces first) =
    record { face = face; session = session; body = [] } ∷ []
up_of face (told_left index session left) = []
up_of face (told_reported index session report) = []
up_of face (told_unreported index session) = []
up_of face (told_end index session end) = record { face = face; session = session; body = [] } ∷ []

abbrev pub notes_in : List FaceTold → List FaceNote
notes_in told = flat_map (λ (t : FaceTold). note_of t.face t.told) told

abbrev pub ups_in : List FaceTold → List FaceUp
ups_in told = flat_map (λ (t : FaceTold). up_of t.face t.told) told

-- ---- marks

-- Marks are made and cleared as by a step of the gate without bounds, which did the same at its faces. What
-- its sessions carry doesn't matter for them.
abbrev pub marking : PeerHappened → Happened
marking h = record {
  wall = h.wall;
  own = h.own;
  is_open = h.is_open;
  is_handed_up = h.is_handed_up;
  ups = ups_in h.told;
  out = h.out;
  notes = notes_in h.told;
}
