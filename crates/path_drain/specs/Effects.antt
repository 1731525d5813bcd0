-- What a drain of a path notes and hands up.

use Rattle.std.specs.Prelude.{◌≡◌, ℕ, List, [], ◌∷◌, ◌++◌}
use Rattle.ltp_segment.specs.declared.session.Note.TheVariants as notes
use Rattle.ltp_laws.specs.View.{IsIn}
use Rattle.gate_cases.specs.declared.face.Face.{Face}
use Rattle.gateway_core.specs.declared.note.GateNote.TheVariants as gate_notes
use Rattle.path_laws.specs.declared.effects.NoteAt.{NoteAt}
use Rattle.path_laws.specs.declared.effects.UpAt.{UpAt}
use Rattle.path_laws.specs.declared.places.Place.{Place}
use Rattle.path_laws.specs.Places.{across, face_place}
use Rattle.path_laws.specs.Path.{PathSetup, Path, PathEvent, note_from, path_step}
use Rattle.path_laws.specs.Log.{Begun}

-- what a run notes, in order
unfoldable pub notes_in : PathSetup → Path → List PathEvent → List NoteAt
notes_in s w [] = []
notes_in s w (event ∷ events) =
    (path_step s w event).effects.notes ++ notes_in s (path_step s w event).path events

-- session n of a place was noted there as sent
abbrev pub IsNotedSent : List NoteAt → Place → ℕ → Type 0
IsNotedSent all place n = IsIn (note_from place (notes.Sent n)) all

-- a bundle that came at a face in session n was stopped there for want of storage
abbrev pub IsShort : List NoteAt → Face → ℕ → Type 0
IsShort all face n = IsIn (record { place = face_place face; note = gate_notes.Storage n }) all

-- a red part was handed up at a place, in session n of the place across its link
pub record IsUpAt (all : List UpAt) (place : Place) (n : ℕ) : Type 0 where
  pub up : UpAt
  pub among : IsIn up all
  pub at : up.place ≡ place
  pub session : up.session ≡ n

-- the whole block of a session was handed up across its link
pub record IsUpWhole (all : List UpAt) (b : Begun) : Type 0 where
  pub is : IsUpAt all (across b.place) b.session
  pub whole : is.up.body ≡ b.block
