-- What only ties code to the definitions: the case of a record that was read, and what goes on.

use Rattle.std.specs.Prelude.{ℕ, nat_lt, if◌then◌else◌, List, [], ◌∷◌, map, Option, Some, None}
use Rattle.bundle_meaning.specs.declared.full.Full.{Full}
use Rattle.block_types.specs.declared.losing.LeftOut.{LeftOut}
use Rattle.translate.specs.Refusals.{first_that_holds}
use Rattle.gate_cases.specs.declared.case.GateCase.{GateCase}
use Rattle.gate_cases.specs.declared.case.GateCase.TheVariants.{Expired, HopLimit}
use Rattle.gate_cases.specs.declared.face.Face.{Face}
use Rattle.gate_cases.specs.Passage.{has_no_hop_left}
use Rattle.gate_cases.specs.Cases.{or_passed, records_of}
use Rattle.face_room.specs.Loads.{has_room}
use Rattle.peer_cases.specs.declared.pieces.SizedPiece.{SizedPiece}
use Rattle.peer_cases.specs.declared.room.FaceRoom.{FaceRoom}
use Rattle.peer_cases.specs.declared.sending.Sent.{Sent}
use Rattle.peer_cases.specs.declared.settings.PeerSettings.{PeerSettings}
use Rattle.peer_cases.specs.Arrivals.{Came}
use Rattle.peer_cases.specs.Pieces.{greatest_size, piece_of}
use Rattle.peer_cases.specs.Cases.{lacks, case_of, if_passed}

-- in a case, records that would go on to a face, and what they lack
abbrev pub sent_in : PeerSettings → Face → List Full → Option LeftOut → GateCase → Sent
sent_in s to records left case = record {
  case = case;
  pieces = if_passed case (map (piece_of s to) records) [];
  left = if_passed case left None;
}

-- records that made their hop
abbrev pub sent_records : PeerSettings → Face → List Full → Option LeftOut → FaceRoom → Sent
sent_records s to records left room =
    sent_in s to records left (or_passed (first_that_holds (lacks s to records room)))

-- a record that was read
abbrev pub sent_full : PeerSettings → Face → Full → Option LeftOut → ℕ → ℕ → FaceRoom → Sent
sent_full s to full left now cut room = sent_in s to (records_of full cut) left (or_passed (first_that_holds
    ((Expired, nat_lt full.shared.expiry now) ∷ (HopLimit, has_no_hop_left full.exts)
    ∷ lacks s to (records_of full cut) room)))

-- a bundle
abbrev pub sent_came : PeerSettings → Face → Came → ℕ → ℕ → FaceRoom → Sent
sent_came s to came now cut room =
    sent_in s to (records_of came.onward cut) came.left (case_of s to came now cut room)

-- the pieces of records, if there is room for all of them
abbrev pub if_room : PeerSettings → Face → FaceRoom → List Full → Option (List SizedPiece)
if_room s to room records =
    if has_room room.bounds room.load (map (greatest_size s to) records)
    then Some (map (piece_of s to) records) else None
