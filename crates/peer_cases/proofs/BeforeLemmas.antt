-- About a block that is one bundle, or none, it is decided as before there were rows.

use Rattle.std.proofs.Common.{◌≡◌, ℕ, ◌-◌, Bool, not, nat_lt, List, [], ◌∷◌, ◌++◌, map, length, take, drop, Some, None, refl, sym, ap, subst, ◌∙◌, arith}
use Rattle.std.specs.List.{list_all}
use Rattle.std.proofs.lemmas.List.{take_all, length-map}
use Rattle.wire_fields.specs.Reading.{read}
use Rattle.bundle6.specs.Table as table6
use Rattle.bundle7.specs.Table as table7
use Rattle.translate.specs.declared.refused.Refused.TheVariants.{TooManyBlocks}
use Rattle.translate.specs.Refusals.{first_that_holds}
use Rattle.gate_cases.specs.declared.case.GateCase.{GateCase}
use Rattle.gate_cases.specs.declared.case.GateCase.TheVariants.{BadBundle, Untranslated, Expired, HopLimit, Storage, Passed}
use Rattle.gate_cases.specs.declared.case.Room.{Room}
use Rattle.gate_cases.specs.declared.face.Face.{Face}
use Rattle.gate_cases.specs.declared.face.Face.TheVariants.{Old, New}
use Rattle.gate_cases.specs.Faces.{other_of, octets_at, fits_at}
use Rattle.gate_cases.specs.Blocks.{Arrival, Found, one, bad, found_at}
use Rattle.gate_cases.specs.Passage.{has_no_hop_left}
use Rattle.gate_cases.specs.Cases.{Judgement, judgement_in, judged, untranslated, or_passed, records_of, is_short}
use Rattle.gate_cases.specs.Cases as before
use Rattle.bundle_rows.specs.declared.next.End.{End}
use Rattle.bundle_rows.specs.Rows.{Extent, Row}
use Rattle.bundle_rows.specs.Standing.{IsBundle, Stands}
use Rattle.bundle_rows.specs.Laws.{FindsOne}
use Rattle.bundle_rows.proofs.RowLemmas.{reads_as_one, row_is_spelled}
use Rattle.face_room.specs.Loads.{has_room}
use Rattle.peer_cases.specs.declared.settings.PeerSettings.{PeerSettings}
use Rattle.peer_cases.specs.Pieces.{greatest_size}
use Rattle.peer_cases.specs.declared.room.FaceRoom.{FaceRoom}
use Rattle.peer_cases.specs.Cases.{stops, case_of, decision_in, decided}
use Rattle.peer_cases.specs.Rows.{a_bundle, came_in, items_from, items_in, items_of}
use Rattle.peer_cases.specs.Laws.{IsPlain, IsAlone, HasOctets, HasSessions, room_as_before, judgement_of, DecidedAsBefore}
use Rattle.peer_cases.proofs.PlainLemmas.{plainly, old-one, new-one, sizes-plain, pieces-plain, short-is}
use Rattle.peer_cases.proofs.RowLemmas.{items-alone}

-- ---- what is read

reads-one : (s : PeerSettings) (face : Face) (block : List ℕ) (arrival : Arrival) → IsPlain s → found_at face block ≡ one arrival
    → came_in s face block ≡ Some (plainly arrival)
unfolding found_at came_in
reads-one s Old block arrival plain is = old-one s (length block) (read (table6.bundle 64) block 0) arrival plain is
reads-one s New block arrival plain is = new-one s (length block) (read (table7.bundle 64) block 0) arrival plain is

-- ---- the case

-- where there is room as before, the same stops a bundle
same-stops : (s : PeerSettings) (to : Face) (arrival : Arrival) (now cut : ℕ) (room : FaceRoom) (sending : ℕ)
    → not (has_room room.bounds room.load (map (greatest_size s to) (records_of arrival.full cut)))
    ≡ is_short (room_as_before sending room) (map (octets_at to) (records_of arrival.full cut))
    → stops s to (plainly arrival) now cut room ≡ before.stops to arrival now cut (room_as_before sending room)
same-stops s to arrival now cut room sending short =
    ap (λ (t : Bool). map untranslated arrival.refusals
    ++ (Expired, nat_lt arrival.full.shared.expiry now)
    ∷ (HopLimit, has_no_hop_left arrival.full.exts)
    ∷ (Untranslated TooManyBlocks, not (list_all (fits_at to) (records_of arrival.full cut)))
    ∷ (Storage, t) ∷ []) short

room-same : (s : PeerSettings) (to : Face) (arrival : Arrival) (cut : ℕ) (room : FaceRoom) (sending : ℕ) → IsPlain s → IsAlone room
    → HasOctets s to (plainly arrival) cut room → HasSessions (plainly arrival) cut sending
    → not (has_room room.bounds room.load (map (greatest_size s to) (records_of arrival.full cut)))
    ≡ is_short (room_as_before sending room) (map (octets_at to) (records_of arrival.full cut))
room-same s to arrival cut room sending plain alone octets sessions =
    let records = records_of arrival.full cut in
    let sizes = sizes-plain s to records plain in
    let count : length (map (octets_at to) records) ≡ length records = length-map records (octets_at to) in
    ap (λ (ns : List ℕ). not (has_room room.bounds room.load ns)) sizes
    ∙ short-is sending room (map (octets_at to) records) alone (rw sizes at octets) (omega (arith, sessions, count))

-- ---- what is decided

same-decision : (s : PeerSettings) (face : Face) (arrival : Arrival) (cut : ℕ) (case : GateCase) → IsPlain s
    → judgement_of (decision_in s (other_of face) (plainly arrival) cut case) ≡ judgement_in face arrival cut case
same-decision s face arrival cut (BadBundle at cause) plain = refl
same-decision s face arrival cut (Untranslated cause) plain = refl
same-decision s face arrival cut Expired plain = refl
same-decision s face arrival cut HopLimit plain = refl
same-decision s face arrival cut Storage plain = refl
same-decision s face arrival cut Passed plain =
    rw (pieces-plain s (other_of face) (records_of arrival.full cut) plain) refl

decides : (s : PeerSettings) (face : Face) (block : List ℕ) (now cut : ℕ) (room : FaceRoom) (sending : ℕ) (arrival : Arrival)
    → IsPlain s → IsAlone room → found_at face block ≡ one arrival
    → HasOctets s (other_of face) (plainly arrival) cut room → HasSessions (plainly arrival) cut sending
    → judgement_of (decided s face (plainly arrival) now cut room) ≡ judged face block now cut (room_as_before sending room)
unfolding decided case_of judged before.case_of
decides s face block now cut room sending arrival plain alone found octets sessions =
    let short = room-same s (other_of face) arrival cut room sending plain alone octets sessions in
    let same = same-stops s (other_of face) arrival now cut room sending short in
    same-decision s face arrival cut (case_of s (other_of face) (plainly arrival) now cut room) plain
    ∙ (ap (λ (cases : List (GateCase × Bool)). judgement_in face arrival cut (or_passed (first_that_holds cases))) same
    ∙ ap (λ (f : Found). before.judgement_of face f cut (before.case_of face f now cut (room_as_before sending room))) (sym found))

nothing-left : (s : PeerSettings) (face : Face) (arrival : Arrival) (cut : ℕ) (case : GateCase)
    → (decision_in s (other_of face) (plainly arrival) cut case).left ≡ None
nothing-left s face arrival cut (BadBundle at cause) = refl
nothing-left s face arrival cut (Untranslated cause) = refl
nothing-left s face arrival cut Expired = refl
nothing-left s face arrival cut HopLimit = refl
nothing-left s face arrival cut Storage = refl
nothing-left s face arrival cut Passed = refl

left-none : (s : PeerSettings) (face : Face) (arrival : Arrival) (now cut : ℕ) (room : FaceRoom)
    → (decided s face (plainly arrival) now cut room).left ≡ None
unfolding decided
left-none s face arrival now cut room = nothing-left s face arrival cut (case_of s (other_of face) (plainly arrival) now cut room)

-- ---- blocks

abbrev pub finds : Face → List ℕ → Row → Type 0
finds face block row = FindsOne (found_at face block) row.bundles row.end

bad-judged : (face : Face) (block : List ℕ) (now cut : ℕ) (room : Room) (end : End) → found_at face block ≡ bad end.at end.cause
    → judged face block now cut room ≡ record { case = BadBundle end.at end.cause; pieces = []; report = None }
unfolding judged before.case_of
bad-judged face block now cut room end is = rw is refl

pub decided_as_before : DecidedAsBefore
unfolding items_of items_from
decided_as_before s face block now cut room sending plain alone fits some = record {
  one = λ extent is.
      let (arrival, found) = subst (finds face block) is (reads_as_one face block fits some) in
      let stands = subst (λ (row : Row). Stands face block 0 row.bundles row.end) is (row_is_spelled face block fits).stands in (
        items-one extent stands,
        (
          plainly arrival,
          record {
            reads = reads-one s face block arrival plain found;
            decides = decides s face block now cut room sending arrival plain alone found;
            left = left-none s face arrival now cut room;
          },
        ),
      );
  none = λ end is.
      let found = subst (finds face block) is (reads_as_one face block fits some) in
      (ap (items_in block) is, bad-judged face block now cut (room_as_before sending room) end found);
}
  where
    -- the one bundle is the whole block
    items-one : (extent : Extent) → Stands face block 0 (extent ∷ []) None → items_of face block ≡ a_bundle None block ∷ []
    items-one extent (from, there, within, is, all) =
        let whole : take (extent.to - extent.from) (drop extent.from block) ≡ block =
        subst (λ (k : ℕ). take (extent.to - k) (drop k block) ≡ block) (sym from) (take_all (extent.to - 0) block (omega (arith, all))) in
        items-alone face block fits some (subst (λ (w : List ℕ). IsBundle face w) whole is)
