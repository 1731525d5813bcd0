-- There is room for what goes on.

use Rattle.std.proofs.Common.{◌≡◌, ℕ, ◌<◌, Bool, true, false, not, ◌&&◌, nat_le, if◌then◌else◌, List, [], ◌∷◌, ◌++◌, map, length, Option, Some, None, Result, Ok, Err, IfOk, refl, ap, subst, ◌∙◌, arith}
use Rattle.std.specs.List.{list_all}
use Rattle.std.specs.Option.{option_map}
use Rattle.std.proofs.lemmas.Bool.{and_parts, leb-true}
use Rattle.std.proofs.lemmas.List.{length-map}
use Rattle.std.proofs.lemmas.List.Elements.{All-nil, All-cons}
use Rattle.bundle_meaning.specs.declared.full.Full.{Full}
use Rattle.translate.specs.declared.refused.Refused.{Refused}
use Rattle.translate.specs.Refusals.{first_that_holds}
use Rattle.gate_cases.specs.declared.case.GateCase.{GateCase}
use Rattle.gate_cases.specs.declared.case.GateCase.TheVariants.{BadBundle, Untranslated, Expired, HopLimit, Storage, Passed}
use Rattle.gate_cases.specs.declared.face.Face.{Face}
use Rattle.gate_cases.specs.Faces.{other_of}
use Rattle.gate_cases.specs.Passage.{passage, pieces_on}
use Rattle.gate_cases.specs.Cases.{untranslated, records_of, or_passed}
use Rattle.gate_cases.proofs.PieceLemmas.{length-from}
use Rattle.fragments.specs.Cutting.{octets_of, is_longer, must_not, how_many, pieces_from}
use Rattle.face_room.specs.declared.bounds.TheConstants.{BLOCK_MAX}
use Rattle.face_room.specs.Loads.{has_room}
use Rattle.face_room.proofs.RoomLemmas.{room-parts}
use Rattle.peer_cases.specs.declared.decision.Decision.{Decision}
use Rattle.peer_cases.specs.declared.pieces.SizedPiece.{SizedPiece}
use Rattle.peer_cases.specs.declared.room.FaceRoom.{FaceRoom}
use Rattle.peer_cases.specs.declared.settings.PeerSettings.{PeerSettings}
use Rattle.peer_cases.specs.Arrivals.{Came}
use Rattle.peer_cases.specs.Pieces.{greatest_size, piece_of}
use Rattle.peer_cases.specs.Cases.{case_of, decision_in, decided}
use Rattle.peer_cases.specs.Rows.{came_in, decided_in}
use Rattle.peer_cases.specs.Promises.{size_of, IsSmall, AreSmall, IsSendable, DecidedIsSendable}

-- ---- the case

-- where nothing stops a bundle, no refusal does
after-refusals : (refusals : List (Refused × Bool)) (others : List (GateCase × Bool))
    → or_passed (first_that_holds (map untranslated refusals ++ others)) ≡ Passed → or_passed (first_that_holds others) ≡ Passed
after-refusals [] others is = is
after-refusals ((refused, holds) ∷ refusals) others is = by holds is (λ rest. after-refusals refusals others rest)
  where
    by : (t : Bool) → or_passed (if t then Some (Untranslated refused) else first_that_holds (map untranslated refusals ++ others)) ≡ Passed
        → (or_passed (first_that_holds (map untranslated refusals ++ others)) ≡ Passed → or_passed (first_that_holds others) ≡ Passed)
        → or_passed (first_that_holds others) ≡ Passed
    by true is rest = absurd (cc)
    by false is rest = rest is

-- nor does want of room
room-last : (a b c h : Bool) (refused : Refused)
    → or_passed (first_that_holds ((Expired, a) ∷ (HopLimit, b) ∷ (Untranslated refused, c) ∷ (Storage, not h) ∷ [])) ≡ Passed → h ≡ true
room-last true b c h refused is = absurd (cc)
room-last false true c h refused is = absurd (cc)
room-last false false true h refused is = absurd (cc)
room-last false false false true refused is = refl
room-last false false false false refused is = absurd (cc)

case-room : (s : PeerSettings) (to : Face) (came : Came) (now cut : ℕ) (room : FaceRoom) → case_of s to came now cut room ≡ Passed
    → has_room room.bounds room.load (map (greatest_size s to) (records_of came.onward cut)) ≡ true
unfolding case_of
case-room s to came now cut room is =
    room-last _ _ _ (has_room room.bounds room.load (map (greatest_size s to) (records_of came.onward cut))) _
    (after-refusals (came.arrival).refusals _ is)

-- ---- the pieces

some-on : (full : Full) (size : ℕ) → 0 < length (pieces_on full size)
some-on full size = by (is_longer full size) (must_not full.shared)
  where
    by : (t m : Bool) → 0 < length (if t && m then full ∷ []
        else if t then pieces_from full size 0 (how_many size (octets_of full.shared.content)) else full ∷ [])
    by true true = omega arith
    by true false = omega (arith, length-from full size 0 (how_many size (octets_of full.shared.content)))
    by false m = omega arith

sizes-are : (s : PeerSettings) (to : Face) (records : List Full) → map size_of (map (piece_of s to) records) ≡ map (greatest_size s to) records
sizes-are s to [] = refl
sizes-are s to (full ∷ records) = ap (λ (ns : List ℕ). greatest_size s to full ∷ ns) (sizes-are s to records)

small-each : (pieces : List SizedPiece) → list_all (λ (n : ℕ). nat_le n BLOCK_MAX) (map size_of pieces) ≡ true → AreSmall pieces
small-each [] all = All-nil IsSmall
small-each (piece ∷ pieces) all =
    let parts = and_parts (nat_le piece.size BLOCK_MAX) (list_all (λ (n : ℕ). nat_le n BLOCK_MAX) (map size_of pieces)) all in
    All-cons IsSmall piece pieces (leb-true piece.size BLOCK_MAX parts.0) (small-each pieces parts.1)

-- what has room can be sent
sendable : (s : PeerSettings) (to : Face) (came : Came) (cut : ℕ) (room : FaceRoom) (case : GateCase)
    → (case ≡ Passed → has_room room.bounds room.load (map (greatest_size s to) (records_of came.onward cut)) ≡ true)
    → IsSendable room (decision_in s to came cut case)
sendable s to came cut room (BadBundle at cause) has = record { small = All-nil IsSmall; room_is = λ is. absurd (cc) }
sendable s to came cut room (Untranslated cause) has = record { small = All-nil IsSmall; room_is = λ is. absurd (cc) }
sendable s to came cut room Expired has = record { small = All-nil IsSmall; room_is = λ is. absurd (cc) }
sendable s to came cut room HopLimit has = record { small = All-nil IsSmall; room_is = λ is. absurd (cc) }
sendable s to came cut room Storage has = record { small = All-nil IsSmall; room_is = λ is. absurd (cc) }
sendable s to came cut room Passed has =
    let records = records_of came.onward cut in
    let pieces = map (piece_of s to) records in
    let fits : has_room room.bounds room.load (map size_of pieces) ≡ true =
    ap (has_room room.bounds room.load) (sizes-are s to records) ∙ has refl in
    record {
      small = small-each pieces (room-parts room.bounds room.load (map size_of pieces) fits).0;
      room_is = λ is. (omega (arith, some-on (passage came.onward) cut, length-map records (piece_of s to)), fits);
    }

pub decided_is_sendable : DecidedIsSendable
unfolding decided
decided_is_sendable s face came now cut room =
    sendable s (other_of face) came cut room (case_of s (other_of face) came now cut room)
    (case-room s (other_of face) came now cut room)

-- ---- what code answered

given-one : (s : PeerSettings) (face : Face) (now cut : ℕ) (room : FaceRoom) (d : Decision) (came : Option Came)
    → option_map (λ (c : Came). decided s face c now cut room) came ≡ Some d → IsSendable room d
given-one s face now cut room d None is = absurd (cc)
given-one s face now cut room d (Some came) is =
    subst (IsSendable room) (same (decided s face came now cut room) is) (decided_is_sendable s face came now cut room)
  where
    same : (other : Decision) → Some other ≡ Some d → other ≡ d
    same other is = cc

pub given-sendable : {E : Type 0} (s : PeerSettings) (face : Face) (w : List ℕ) (now cut : ℕ) (room : FaceRoom) (result : Result Decision E)
    → IfOk result (λ d. decided_in s face w now cut room ≡ Some d) → IfOk result (IsSendable room)
unfolding decided_in
given-sendable s face w now cut room (Ok d) is = given-one s face now cut room d (came_in s face w) is
given-sendable s face w now cut room (Err e) is = tt
