-- About a bundle that neither gate turns away for want of room both decide the same.

use Rattle.std.proofs.Common.{◌≡◌, ℕ, ◌+◌, ◌≤◌, Bool, true, false, not, ◌&&◌, nat_lt, nat_le, if◌then◌else◌, List, [], ◌∷◌, ◌++◌, map, length, Option, None, Some, refl, sym, ◌∙◌, ap, subst, append_assoc, arith}
use Rattle.std.proofs.lemmas.Bool.{leb-true}
use Rattle.std.proofs.lemmas.List.{length-map}
use Rattle.std.specs.List.{list_all, sum_by}
use Rattle.bundle_meaning.specs.declared.full.Full.{Full}
use Rattle.wire_fields.specs.Reading.{read}
use Rattle.bundle6.specs.Table as table6
use Rattle.bundle7.specs.Table as table7
use Rattle.translate.specs.declared.refused.Refused.TheVariants.{TooManyBlocks}
use Rattle.translate.specs.Refusals.{first_that_holds}
use Rattle.gate_cases.specs.declared.case.GateCase.{GateCase}
use Rattle.gate_cases.specs.declared.case.GateCase.TheVariants.{BadBundle, Untranslated, Expired, HopLimit, Storage, Passed}
use Rattle.gate_cases.specs.declared.case.Room.{Room}
use Rattle.gate_cases.specs.declared.face.Face.{Face}
use Rattle.gate_cases.specs.declared.face.Face.TheVariants.{Old, New}
use Rattle.gate_cases.specs.Faces.{other_of, octets_at, fits_at}
use Rattle.gate_cases.specs.Blocks.{Arrival, Found, one, found_at}
use Rattle.gate_cases.specs.Passage.{has_no_hop_left}
use Rattle.gate_cases.specs.Cases.{judgement_in, judged, untranslated, or_passed, records_of, is_short}
use Rattle.gate_cases.specs.Cases as before
use Rattle.face_room.specs.declared.bounds.TheConstants.{BLOCK_MAX, NUMBERS}
use Rattle.face_room.specs.Bounds.{for_pieces, need}
use Rattle.face_room.specs.Loads.{has_room}
use Rattle.face_room.proofs.RoomLemmas.{alone_each}
use Rattle.peer_cases.specs.declared.room.FaceRoom.{FaceRoom}
use Rattle.peer_cases.specs.declared.settings.PeerSettings.{PeerSettings}
use Rattle.peer_cases.specs.Pieces.{greatest_size, piece_of}
use Rattle.peer_cases.specs.Cases.{case_of, decided, decision_in, stops}
use Rattle.peer_cases.specs.Laws.{IsAlone, IsPlain, judgement_of, room_as_before}
use Rattle.peer_cases.specs.Rows.{came_in}
use Rattle.peer_cases.proofs.PlainLemmas.{lengths, plainly, old-one, new-one, pieces-plain, short-is, sizes-plain}
use Rattle.peer_serve_laws.specs.Steps.{IsTakenCase}

-- ---- what is read

pub reads-one : (s : PeerSettings) (face : Face) (block : List ℕ) (arrival : Arrival) → IsPlain s → found_at face block ≡ one arrival
    → came_in s face block ≡ Some (plainly arrival)
unfolding found_at came_in
reads-one s Old block arrival plain is = old-one s (length block) (read (table6.bundle 64) block 0) arrival plain is
reads-one s New block arrival plain is = new-one s (length block) (read (table7.bundle 64) block 0) arrival plain is

-- ---- the case

-- what may stop a bundle but for want of room
abbrev stops_else : Face → Arrival → ℕ → ℕ → List (GateCase × Bool)
stops_else to arrival now cut =
    map untranslated arrival.refusals
    ++ (Expired, nat_lt arrival.full.shared.expiry now)
    ∷ (HopLimit, has_no_hop_left arrival.full.exts)
    ∷ (Untranslated TooManyBlocks, not (list_all (fits_at to) (records_of arrival.full cut)))
    ∷ []

abbrev or_last : Option GateCase → Bool → Option GateCase
or_last None short = if short then Some Storage else None
or_last (Some case) short = Some case

first-last : (cases : List (GateCase × Bool)) (short : Bool) → first_that_holds (cases ++ (Storage, short) ∷ []) ≡ or_last (first_that_holds cases) short
first-last [] short = refl
first-last (case ∷ cases) short = by case.1 (first-last cases short) where
  by : (t : Bool) → first_that_holds (cases ++ (Storage, short) ∷ []) ≡ or_last (first_that_holds cases) short
      → (if t then Some case.0 else first_that_holds (cases ++ (Storage, short) ∷ [])) ≡ or_last (if t then Some case.0 else first_that_holds cases) short
  by true rest = refl
  by false rest = rest

same-taken : (first : Option GateCase) (t u : Bool) → IsTakenCase (or_passed (or_last first t)) → IsTakenCase (or_passed (or_last first u))
    → or_passed (or_last first t) ≡ or_passed (or_last first u)
same-taken (Some case) t u mine its = refl
same-taken None true u mine its = absurd mine
same-taken None false true mine its = absurd its
same-taken None false false mine its = refl

case-is : (to : Face) (arrival : Arrival) (now cut : ℕ) (short : Bool)
    → first_that_holds (map untranslated arrival.refusals ++ (Expired, nat_lt arrival.full.shared.expiry now) ∷ (HopLimit, has_no_hop_left arrival.full.exts)
    ∷ (Untranslated TooManyBlocks, not (list_all (fits_at to) (records_of arrival.full cut))) ∷ (Storage, short) ∷ [])
    ≡ or_last (first_that_holds (stops_else to arrival now cut)) short
case-is to arrival now cut short =
    ap (λ (cases : List (GateCase × Bool)). first_that_holds cases) (sym (append_assoc (map untranslated arrival.refusals)
    ((Expired, nat_lt arrival.full.shared.expiry now) ∷ (HopLimit, has_no_hop_left arrival.full.exts)
    ∷ (Untranslated TooManyBlocks, not (list_all (fits_at to) (records_of arrival.full cut))) ∷ [])
    ((Storage, short) ∷ [])))
    ∙ first-last (stops_else to arrival now cut) short

-- ---- the decision

same-decision : (s : PeerSettings) (face : Face) (arrival : Arrival) (cut : ℕ) (case : GateCase) → IsPlain s
    → judgement_of (decision_in s (other_of face) (plainly arrival) cut case) ≡ judgement_in face arrival cut case
same-decision s face arrival cut (BadBundle at cause) plain = refl
same-decision s face arrival cut (Untranslated cause) plain = refl
same-decision s face arrival cut Expired plain = refl
same-decision s face arrival cut HopLimit plain = refl
same-decision s face arrival cut Storage plain = refl
same-decision s face arrival cut Passed plain = rw (pieces-plain s (other_of face) (records_of arrival.full cut) plain) refl

judged-is : (face : Face) (block : List ℕ) (now cut : ℕ) (room : Room) (arrival : Arrival) → found_at face block ≡ one arrival
    → judged face block now cut room ≡ judgement_in face arrival cut (before.case_of face (one arrival) now cut room)
unfolding judged
judged-is face block now cut room arrival found = ap (λ (f : Found). before.judgement_of face f cut (before.case_of face f now cut room)) found

pub decision-same : (s : PeerSettings) (face : Face) (block : List ℕ) (now cut : ℕ) (mine : FaceRoom) (its : Room) (arrival : Arrival) → IsPlain s
    → found_at face block ≡ one arrival
    → IsTakenCase (decided s face (plainly arrival) now cut mine).case → IsTakenCase (judged face block now cut its).case
    → judgement_of (decided s face (plainly arrival) now cut mine) ≡ judged face block now cut its
unfolding decided case_of before.case_of
decision-same s face block now cut mine its arrival plain found taken also =
    let to : Face = other_of face in
    let first : Option GateCase = first_that_holds (stops_else to arrival now cut) in
    let full : Bool = not (has_room mine.bounds mine.load (map (greatest_size s to) (records_of arrival.full cut))) in
    let short : Bool = is_short its (map (octets_at to) (records_of arrival.full cut)) in
    let judged_so = judged-is face block now cut its arrival found in
    let taken_mine : IsTakenCase (or_passed (or_last first full)) = subst (λ (c : Option GateCase). IsTakenCase (or_passed c)) (case-is to arrival now cut full) taken in
    let judged_case : IsTakenCase (before.case_of face (one arrival) now cut its) = subst (λ (j : before.Judgement). IsTakenCase j.case) judged_so also in
    let taken_its : IsTakenCase (or_passed (or_last first short)) = subst (λ (c : Option GateCase). IsTakenCase (or_passed c)) (case-is to arrival now cut short) judged_case in
    same-decision s face arrival cut (or_passed (first_that_holds (stops s to (plainly arrival) now cut mine))) plain
    ∙ (ap (λ (c : GateCase). judgement_in face arrival cut c)
    (ap or_passed (case-is to arrival now cut full) ∙ (same-taken first full short taken_mine taken_its ∙ ap or_passed (sym (case-is to arrival now cut short))))
    ∙ sym judged_so)

pub nothing-left : (s : PeerSettings) (face : Face) (arrival : Arrival) (now cut : ℕ) (room : FaceRoom) → (decided s face (plainly arrival) now cut room).left ≡ None
unfolding decided
nothing-left s face arrival now cut room = by (case_of s (other_of face) (plainly arrival) now cut room) where
  by : (case : GateCase) → (decision_in s (other_of face) (plainly arrival) cut case).left ≡ None
  by (BadBundle at cause) = refl
  by (Untranslated cause) = refl
  by Expired = refl
  by HopLimit = refl
  by Storage = refl
  by Passed = refl

-- ---- the gate of `serve` takes what this one takes

-- where nothing else stops a bundle and there is room, it isn't short of it there
taken-room : (first : Option GateCase) (full short : Bool) → (full ≡ false → first ≡ None → short ≡ false) → IsTakenCase (or_passed (or_last first full))
    → IsTakenCase (or_passed (or_last first short))
taken-room (Some case) full short room taken = taken
taken-room None true short room taken = absurd taken
taken-room None false short room taken = subst (λ (t : Bool). IsTakenCase (or_passed (or_last None t))) (sym (room refl refl)) tt

room-octets : (room : FaceRoom) (sizes : List ℕ) → IsAlone room → has_room room.bounds room.load sizes ≡ true
    → (room.load).kept + sum_by (need (room.bounds).segment) sizes ≤ for_pieces room.bounds
room-octets room sizes alone is =
    let each = alone_each room.bounds room.load sizes alone.waiting (λ k d inside. omega (arith, alone.wanted)) in
    last (list_all (λ (n : ℕ). nat_le n BLOCK_MAX) sizes) (nat_le ((room.load).next_session + length sizes) NUMBERS)
    (nat_le ((room.load).kept + sum_by (need (room.bounds).segment) sizes) (for_pieces room.bounds)) (sym each ∙ is) refl
  where
    last : (a b c : Bool) → (a && (b && c)) ≡ true → nat_le ((room.load).kept + sum_by (need (room.bounds).segment) sizes) (for_pieces room.bounds) ≡ c
        → (room.load).kept + sum_by (need (room.bounds).segment) sizes ≤ for_pieces room.bounds
    last true true true is same = leb-true ((room.load).kept + sum_by (need (room.bounds).segment) sizes) (for_pieces room.bounds) same
    last true true false is same = absurd (cc (is))
    last true false c is same = absurd (cc (is))
    last false b c is same = absurd (cc (is))

pub room-number : (room : FaceRoom) (size : ℕ) → IsAlone room → has_room room.bounds room.load (size ∷ []) ≡ true → (room.load).next_session + 1 ≤ NUMBERS
room-number room size alone is =
    let each = alone_each room.bounds room.load (size ∷ []) alone.waiting (λ k d inside. omega (arith, alone.wanted)) in
    middle (list_all (λ (n : ℕ). nat_le n BLOCK_MAX) (size ∷ [])) (nat_le ((room.load).next_session + 1) NUMBERS)
    (nat_le ((room.load).kept + sum_by (need (room.bounds).segment) (size ∷ [])) (for_pieces room.bounds)) (sym each ∙ is) refl
  where
    middle : (a b c : Bool) → (a && (b && c)) ≡ true → nat_le ((room.load).next_session + 1) NUMBERS ≡ b → (room.load).next_session + 1 ≤ NUMBERS
    middle true true c is same = leb-true ((room.load).next_session + 1) NUMBERS same
    middle true false c is same = absurd (cc (is))
    middle false b c is same = absurd (cc (is))

not-not : (t : Bool) → not t ≡ false → t ≡ true
not-not true is = refl
not-not false is = absurd (cc (is))

pub also-taken : (s : PeerSettings) (face : Face) (block : List ℕ) (now cut sending : ℕ) (room : FaceRoom) (arrival : Arrival) → IsPlain s → IsAlone room
    → found_at face block ≡ one arrival → IsTakenCase (decided s face (plainly arrival) now cut room).case
    → sending + length (decided s face (plainly arrival) now cut room).pieces ≤ 64
    → IsTakenCase (judged face block now cut (room_as_before sending room)).case
unfolding decided case_of before.case_of
also-taken s face block now cut sending room arrival plain alone found taken few =
    let to : Face = other_of face in
    let records : List Full = records_of arrival.full cut in
    let first : Option GateCase = first_that_holds (stops_else to arrival now cut) in
    let full : Bool = not (has_room room.bounds room.load (map (greatest_size s to) records)) in
    let short : Bool = is_short (room_as_before sending room) (map (octets_at to) records) in
    let mine : or_passed (first_that_holds (stops s to (plainly arrival) now cut room)) ≡ or_passed (or_last first full) = ap or_passed (case-is to arrival now cut full) in
    let taken_mine : IsTakenCase (or_passed (or_last first full)) = subst IsTakenCase mine taken in
    let passes : full ≡ false → first ≡ None → or_passed (first_that_holds (stops s to (plainly arrival) now cut room)) ≡ Passed =
    (λ free none. mine ∙ (ap (λ (c : Option GateCase). or_passed (or_last c full)) none ∙ ap (λ (t : Bool). or_passed (or_last None t)) free)) in
    let its : IsTakenCase (or_passed (or_last first short)) = taken-room first full short
    (λ free none. not-short free (few-records (or_passed (first_that_holds (stops s to (plainly arrival) now cut room))) (passes free none) few)) taken_mine in
    subst (λ (j : before.Judgement). IsTakenCase j.case) (sym (judged-is face block now cut (room_as_before sending room) arrival found))
    (subst (λ (c : Option GateCase). IsTakenCase (or_passed c)) (sym (case-is to arrival now cut short)) its)
  where
    few-records : (case : GateCase) → case ≡ Passed → sending + length (decision_in s (other_of face) (plainly arrival) cut case).pieces ≤ 64
        → sending + length (records_of arrival.full cut) ≤ 64
    few-records case is few =
        let count : length (map (piece_of s (other_of face)) (records_of arrival.full cut)) ≡ length (records_of arrival.full cut) = length-map (records_of arrival.full cut) (piece_of s (other_of face)) in
        let so : sending + length (map (piece_of s (other_of face)) (records_of arrival.full cut)) ≤ 64 =
        subst (λ (c : GateCase). sending + length (decision_in s (other_of face) (plainly arrival) cut c).pieces ≤ 64) is few in
        omega (arith, so, count)

    not-short : not (has_room room.bounds room.load (map (greatest_size s (other_of face)) (records_of arrival.full cut))) ≡ false
        → sending + length (records_of arrival.full cut) ≤ 64 → is_short (room_as_before sending room) (map (octets_at (other_of face)) (records_of arrival.full cut)) ≡ false
    not-short free few =
        let records : List Full = records_of arrival.full cut in
        let sizes = sizes-plain s (other_of face) records plain in
        let count : length (map (octets_at (other_of face)) records) ≡ length records = length-map records (octets_at (other_of face)) in
        let so : not (has_room room.bounds room.load (lengths (map (octets_at (other_of face)) records))) ≡ false = subst (λ (ns : List ℕ). not (has_room room.bounds room.load ns) ≡ false) sizes free in
        sym (short-is sending room (map (octets_at (other_of face)) records) alone
        (room-octets room (lengths (map (octets_at (other_of face)) records)) alone (not-not (has_room room.bounds room.load (lengths (map (octets_at (other_of face)) records))) so))
        (omega (arith, few, count)))
        ∙ so
