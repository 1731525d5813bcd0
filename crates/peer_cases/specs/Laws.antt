-- What holds of rows, and of what is decided about their bundles.

use Rattle.std.specs.Prelude.{◌≡◌, ℕ, ◌+◌, ◌<◌, ◌≤◌, false, List, [], ◌∷◌, ◌++◌, map, length, Option, Some, None}
use Rattle.std.specs.List.{All, flat_map, sum_by}
use Rattle.wire_fields.specs.Reading.{IsOctets}
use Rattle.bundle_meaning.specs.Blocks.{residue_kind, wrap_kind}
use Rattle.gate_cases.specs.declared.case.GateCase.TheVariants.{BadBundle}
use Rattle.gate_cases.specs.declared.case.TheConstants.{SENDING_MAX}
use Rattle.gate_cases.specs.declared.case.Room.{Room}
use Rattle.gate_cases.specs.declared.face.Face.{Face}
use Rattle.gate_cases.specs.Faces.{other_of}
use Rattle.gate_cases.specs.Cases.{Judgement, judged, records_of}
use Rattle.bundle_rows.specs.declared.next.End.{End}
use Rattle.bundle_rows.specs.Rows.{Extent, row_of}
use Rattle.face_room.specs.Bounds.{need, for_pieces}
use Rattle.face_room.specs.Loads.{no_blocks}
use Rattle.peer_cases.specs.declared.settings.PeerSettings.{PeerSettings}
use Rattle.peer_cases.specs.declared.pieces.SizedPiece.{SizedPiece}
use Rattle.peer_cases.specs.Arrivals.{Came}
use Rattle.peer_cases.specs.Pieces.{greatest_size}
use Rattle.peer_cases.specs.declared.decision.Decision.{Decision}
use Rattle.peer_cases.specs.declared.room.FaceRoom.{FaceRoom}
use Rattle.peer_cases.specs.Cases.{decided}
use Rattle.peer_cases.specs.Rows.{Item, a_bundle, an_end, came_in, bundles_in, items_of}

-- ---- a row is its bundles in turn

-- whatever the place in the row
abbrev pub placeless : Item → Item
placeless (a_bundle index octets) = a_bundle None octets
placeless (an_end index end) = an_end None end

abbrev pub end_items : Option End → List Item
end_items None = []
end_items (Some end) = an_end None end ∷ []

-- Each bundle of a row alone, in a block of its own, is a row of that bundle. So the row is, but for the
-- places, the rows of its bundles one after the other, and its end.
pub record IsInTurn (face : Face) (block : List ℕ) : Type 0 where
  pub alone : All (λ (octets : List ℕ). items_of face octets ≡ a_bundle None octets ∷ []) (bundles_in face block)
  pub turn : map placeless (items_of face block)
      ≡ flat_map (items_of face) (bundles_in face block) ++ end_items (row_of face block).end

abbrev pub RowInTurn : Type 0
RowInTurn = (face : Face) (block : List ℕ) → IsOctets block → IsInTurn face block

-- ---- as before

-- the block types are the gateway's own; nothing is left out; and ages stay as they come
pub record IsPlain (s : PeerSettings) : Type 0 where
  pub residue : (s.types).residue ≡ residue_kind
  pub wrap : (s.types).wrap ≡ wrap_kind
  pub whole : s.bare ≡ false
  pub ageless : s.raises ≡ false

-- pieces go alone, and none waits
pub record IsAlone (room : FaceRoom) : Type 0 where
  pub wanted : (room.bounds).wanted ≡ 0
  pub waiting : (room.load).waiting ≡ no_blocks

-- the octets of a bundle's pieces are no matter
abbrev pub HasOctets : PeerSettings → Face → Came → ℕ → FaceRoom → Type 0
HasOctets s to came cut room =
    (room.load).kept + sum_by (need (room.bounds).segment) (map (greatest_size s to) (records_of came.onward cut))
    ≤ for_pieces room.bounds

-- Where so many sessions are being sent, each piece has a session at once. Before, a bundle without them
-- was turned away; now its pieces wait for them.
abbrev pub HasSessions : Came → ℕ → ℕ → Type 0
HasSessions came cut sending = sending + length (records_of came.onward cut) ≤ SENDING_MAX

abbrev pub room_as_before : ℕ → FaceRoom → Room
room_as_before sending room = record { sending = sending; next_session = (room.load).next_session }

-- a decision says nothing more than a judgement
abbrev pub octets_of_piece : SizedPiece → List ℕ
octets_of_piece piece = piece.octets

abbrev pub judgement_of : Decision → Judgement
judgement_of d = record { case = d.case; pieces = map octets_of_piece d.pieces; report = d.report }

-- of a bundle that is the whole block
pub record DecidesAsBefore (s : PeerSettings) (face : Face) (block : List ℕ) (now cut : ℕ) (room : FaceRoom) (sending : ℕ) (came : Came) : Type 0 where
  pub reads : came_in s face block ≡ Some came
  pub decides : HasOctets s (other_of face) came cut room → HasSessions came cut sending
      → judgement_of (decided s face came now cut room) ≡ judged face block now cut (room_as_before sending room)
  pub left : (decided s face came now cut room).left ≡ None

-- a block that is one bundle, without an end, or none; where so many sessions are being sent
pub record IsAsBefore (s : PeerSettings) (face : Face) (block : List ℕ) (now cut : ℕ) (room : FaceRoom) (sending : ℕ) : Type 0 where
  pub one : (extent : Extent) → row_of face block ≡ record { bundles = extent ∷ []; end = None }
      → (items_of face block ≡ a_bundle None block ∷ [])
      × ((came : Came) × DecidesAsBefore s face block now cut room sending came)
  pub none : (end : End) → row_of face block ≡ record { bundles = []; end = Some end }
      → (items_of face block ≡ an_end None end ∷ [])
      × (judged face block now cut (room_as_before sending room) ≡ record { case = BadBundle end.at end.cause; pieces = []; report = None })

-- About a block that is one bundle, or none, it is decided as before there were rows.
abbrev pub DecidedAsBefore : Type 0
DecidedAsBefore = (s : PeerSettings) (face : Face) (block : List ℕ) (now cut : ℕ) (room : FaceRoom) (sending : ℕ) → IsPlain s
    → IsAlone room → IsOctets block → 0 < length block → IsAsBefore s face block now cut room sending
