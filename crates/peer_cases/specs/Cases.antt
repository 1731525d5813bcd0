-- What is decided about a bundle among other implementations: the cases of `gate_cases`, with the room of a
-- face within its bounds.

use Rattle.std.specs.Prelude.{ℕ, Bool, not, ◌||◌, nat_lt, nat_le, List, [], ◌∷◌, ◌++◌, map, None}
use Rattle.std.specs.List.{list_all}
use Rattle.bundle_meaning.specs.declared.full.Full.{Full}
use Rattle.translate.specs.declared.refused.Refused.TheVariants.{TooManyBlocks}
use Rattle.translate.specs.Refusals.{first_that_holds}
use Rattle.gate_cases.specs.declared.case.GateCase.{GateCase}
use Rattle.gate_cases.specs.declared.case.GateCase.TheVariants.{BadBundle, Untranslated, Expired, HopLimit, Storage, Passed}
use Rattle.gate_cases.specs.declared.case.TheConstants.{NUMBERS}
use Rattle.gate_cases.specs.declared.face.Face.{Face}
use Rattle.gate_cases.specs.Faces.{other_of, fits_at}
use Rattle.gate_cases.specs.Passage.{has_no_hop_left}
use Rattle.gate_cases.specs.Cases.{untranslated, records_of, or_passed}
use Rattle.gate_cases.specs.Reports.{asked}
use Rattle.face_room.specs.Loads.{has_room}
use Rattle.peer_cases.specs.declared.decision.Decision.{Decision}
use Rattle.peer_cases.specs.declared.room.FaceRoom.{FaceRoom}
use Rattle.peer_cases.specs.declared.settings.PeerSettings.{PeerSettings}
use Rattle.peer_cases.specs.Arrivals.{Came}
use Rattle.peer_cases.specs.Pieces.{greatest_size, piece_of}

-- ---- the cases

-- what may stop records on their way to a face: one has too many blocks for its version, or there is no
-- room for them all
abbrev pub lacks : PeerSettings → Face → List Full → FaceRoom → List (GateCase × Bool)
lacks s to records room =
    (Untranslated TooManyBlocks, not (list_all (fits_at to) records))
    ∷ (Storage, not (has_room room.bounds room.load (map (greatest_size s to) records)))
    ∷ []

-- what may stop a bundle on its way to a face, in order, each with its condition
abbrev pub stops : PeerSettings → Face → Came → ℕ → ℕ → FaceRoom → List (GateCase × Bool)
stops s to came now cut room =
    map untranslated came.arrival.refusals
    ++ (Expired, nat_lt came.onward.shared.expiry now)
    ∷ (HopLimit, has_no_hop_left came.onward.exts)
    ∷ lacks s to (records_of came.onward cut) room

-- the first that holds decides; where nothing stops the bundle, it goes on
unfoldable pub case_of : PeerSettings → Face → Came → ℕ → ℕ → FaceRoom → GateCase
case_of s to came now cut room = or_passed (first_that_holds (stops s to came now cut room))

-- ---- what is decided

-- something of a bundle that goes on; and else nothing of it
abbrev pub if_passed : {X : Type 0} → GateCase → X → X → X
if_passed (BadBundle at cause) passed stopped = stopped
if_passed (Untranslated cause) passed stopped = stopped
if_passed Expired passed stopped = stopped
if_passed HopLimit passed stopped = stopped
if_passed Storage passed stopped = stopped
if_passed Passed passed stopped = passed

abbrev pub decision_in : PeerSettings → Face → Came → ℕ → GateCase → Decision
decision_in s to came cut case = record {
  case = case;
  pieces = if_passed case (map (piece_of s to) (records_of came.onward cut)) [];
  report = asked came.arrival.subject case;
  left = if_passed case came.left None;
}

-- What is decided about a bundle that came at a face at a moment, where a bundle is cut into pieces of so
-- many octets, and this is the room at the other face.
unfoldable pub decided : PeerSettings → Face → Came → ℕ → ℕ → FaceRoom → Decision
decided s face came now cut room =
    decision_in s (other_of face) came cut (case_of s (other_of face) came now cut room)

-- ---- reports

-- a report that is asked for isn't made where its face has no room for its bundle of so many octets; where
-- the clock shows less than a second; or where the counter is spent
abbrev pub is_unreported : FaceRoom → ℕ → ℕ → ℕ → Bool
is_unreported room size now counter =
    not (has_room room.bounds room.load (size ∷ [])) || nat_lt now 1000 || nat_le NUMBERS counter
