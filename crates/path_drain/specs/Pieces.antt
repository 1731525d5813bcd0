-- What becomes of a block that comes to a face, in numbers: as many pieces as were counted while it
-- was on its way, and one report; and what is decided about it is noted.

use Rattle.std.specs.Prelude.{◌≡◌, ◌≢◌, ℕ, ◌+◌, ◌<◌, ◌≤◌, List, [], length, map, Result}
use Rattle.bundle_meaning.specs.declared.full.Full.{Full}
use Rattle.gate_cases.specs.declared.case.TheConstants.{BLOCK_MAX, SENDING_MAX, NUMBERS}
use Rattle.gate_cases.specs.declared.case.GateCase.TheVariants.{Passed, Storage}
use Rattle.gate_cases.specs.declared.case.Room.{Room}
use Rattle.gate_cases.specs.declared.face.Face.{Face}
use Rattle.gate_cases.specs.Blocks.{Arrival, one, found_at}
use Rattle.gate_cases.specs.Cases.{judged}
use Rattle.gate_cases.specs.Faces.{other_of, octets_at}
use Rattle.gate_cases.specs.Passage.{passage, pieces_on}
use Rattle.gateway_core.specs.declared.effects.FaceNote.{FaceNote}
use Rattle.gateway_core.specs.declared.effects.FaceUp.{FaceUp}
use Rattle.gateway_core.specs.declared.note.GateNote.{GateNote}
use Rattle.gateway_core.specs.Gate.{Gate, GateSetup, arrives_at, case_note, judged_at, note_at}
use Rattle.ltp_laws.specs.View.{IsIn}
use Rattle.ltp_segment.specs.declared.fault.SegmentCause.{SegmentCause}
use Rattle.ltp_segment.specs.Values.{SegmentValue}
use Rattle.path_laws.specs.declared.effects.NoteAt.{NoteAt}
use Rattle.path_laws.specs.declared.effects.UpAt.{UpAt}
use Rattle.path_laws.specs.Path.{Path, PathEvent, PathSetup, path_step}
use Rattle.path_laws.specs.Places.{face_place}
use Rattle.path_drain.specs.OnTheWay.{piece_count}

-- ---- the number of pieces

-- a hop of its own changes no record's number of pieces
abbrev pub PassageKeepsPieces : Type 0
PassageKeepsPieces =
    (full : Full) (cut : ℕ)
    → length (pieces_on (passage full) cut) ≡ length (pieces_on full cut)

-- a block that goes on becomes as many pieces as were counted, and any other none
pub record AreCounted (face : Face) (block : List ℕ) (now cut : ℕ) (room : Room) : Type 0 where
  pub passed :
      (judged face block now cut room).case ≡ Passed
      → length (judged face block now cut room).pieces ≡ piece_count face cut block
  pub stopped :
      (judged face block now cut room).case ≢ Passed → (judged face block now cut room).pieces ≡ []

abbrev pub PiecesAreCounted : Type 0
PiecesAreCounted =
    (face : Face) (block : List ℕ) (now cut : ℕ) (room : Room) → AreCounted face block now cut room

-- ---- want of storage

-- a piece of the bundle that a block is, which made its hop, is longer than a session carries
pub record HasLongPiece (face : Face) (block : List ℕ) (cut : ℕ) : Type 0 where
  pub arrival : Arrival
  pub reads : found_at face block ≡ one arrival
  pub piece : List ℕ
  pub among : IsIn piece (map (octets_at (other_of face)) (pieces_on (passage arrival.full) cut))
  pub long : BLOCK_MAX < length piece

-- where the other face has room for as many sessions as there are pieces, a bundle is stopped for
-- want of storage only by a piece's length
abbrev pub StorageIsOfLength : Type 0
StorageIsOfLength =
    (face : Face) (block : List ℕ) (now cut : ℕ) (room : Room)
    → room.sending + piece_count face cut block ≤ SENDING_MAX
    → room.next_session + piece_count face cut block ≤ NUMBERS
    → (judged face block now cut room).case ≡ Storage → HasLongPiece face block cut

-- ---- notes

-- what a face notes about a block that came whole there in a session: the case that a gate decides at
-- this moment, by its room at the other face
abbrev pub case_at : GateSetup → Face → ℕ → ℕ → List ℕ → Gate → GateNote
case_at s face now session block g =
    case_note session (length (judged_at s face now block g).pieces)
    (judged_at s face now block g).case

-- among these notes is the case of a block that was handed up at a face, as this gate decides it at
-- this moment
abbrev pub IsCaseNoted : GateSetup → ℕ → Gate → List FaceNote → FaceUp → Type 0
IsCaseNoted s now g noted up =
    IsIn (note_at up.face (case_at s up.face now up.session up.body g)) noted

-- whatever comes to a face, each block that is handed up has its case noted with it; the room that
-- decides it is that of the gate before, since what comes to a face changes nothing at the other one
-- until a block is passed on
abbrev pub CasesAreNoted : Type 0
CasesAreNoted =
    (s : GateSetup) (face : Face) (read : Result SegmentValue (ℕ × SegmentCause)) (now : ℕ)
    (g : Gate) (up : FaceUp) → IsIn up (arrives_at s face read now g).effects.ups
    → IsCaseNoted s now g (arrives_at s face read now g).effects.notes up

-- the same at a face's place on a path, as the path's gate decides it by the path's clock
abbrev pub IsCaseNotedAt : PathSetup → Path → List NoteAt → Face → UpAt → Type 0
IsCaseNotedAt s w noted face up =
    IsIn
    (record {
      place = face_place face;
      note = case_at s.gate face w.now up.session up.body w.gate;
    }) noted

-- each block that an event hands up at a face has its case noted by that event, as the gate before
-- it decides
abbrev pub PathNotesCases : Type 0
PathNotesCases =
    (s : PathSetup) (w : Path) (event : PathEvent) (face : Face) (up : UpAt)
    → IsIn up (path_step s w event).effects.ups → up.place ≡ face_place face
    → IsCaseNotedAt s w (path_step s w event).effects.notes face up
